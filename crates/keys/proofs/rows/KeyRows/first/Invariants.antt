-- No row of the key that the loop has passed does the test let pass. Assumes nothing.
use Prim.Native.Nat.{◌-◌, ◌≤◌}
use mathlib.Core.Bool.{Bool}
use Rattle.keys.specs.Hits.{Tests, Missed}
use Rattle.keys.specs.Rows.{hit_of}
use Rattle.keys.proofs.rows.KeyRows.first.Given as goal

abbrev pub invariant-loop-here : goal.invariant-loop-here
invariant-loop-here g l =
    (l.from ≤ l.self.view.rows)
    × ((p : _ → Bool) → Tests (goal.F-post g l.test) p → Missed (hit_of l.self p) l.from)

abbrev pub decreases-loop-here : goal.decreases-loop-here
decreases-loop-here g l = l.self.view.rows - l.from
