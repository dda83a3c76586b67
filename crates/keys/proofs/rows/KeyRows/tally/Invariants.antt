-- The loop has tallied the rows of the key that it has passed and that the test lets pass. Assumes nothing.
use Prim.Native.Nat.{◌-◌, ◌<◌, ◌≤◌}
use mathlib.Core.Bool.{Bool}
use Rattle.cells.specs.Tally.{Tallying}
use Rattle.keys.specs.Hits.{Tests}
use Rattle.keys.specs.Rows.{hit_of}
use Rattle.keys.proofs.rows.KeyRows.tally.Given as goal

abbrev pub invariant-loop-here : goal.invariant-loop-here
invariant-loop-here g l =
    (l.from ≤ l.self.view.rows)
    × (l.count ≤ l.from)
    × (0 < l.count → l.last < l.from)
    × ((p : _ → Bool) → Tests (goal.F-post g l.test) p → Tallying (hit_of l.self p) l.self.view.rows l.from l.count l.last)

abbrev pub decreases-loop-here : goal.decreases-loop-here
decreases-loop-here g l = l.self.view.rows - l.from
