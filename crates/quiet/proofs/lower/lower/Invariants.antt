-- No row that the loop has passed bars, and it remembers whether one allowed more. Assumes nothing.
use Prim.Native.Nat.{◌-◌, ◌≤◌}
use mathlib.Core.Bool.{Bool, false, not}
use Rattle.guideline.specs.declared.rows.Row643.{Row643}
use Rattle.guideline.specs.declared.rows.Row649.{Row649}
use Rattle.guideline.specs.Quiet.{minimum_empty, allows_more}
use Rattle.guideline.specs.Table.{Table}
use Rattle.keys.specs.Rows.{lent_rows}
use Rattle.sieve.specs.declared.left.Left.{Left}
use Rattle.quiet.proofs.Looked.{Looked}
use Rattle.quiet.proofs.lower.lower.Given as goal

-- what keeps the signal
abbrev pub bars : Table Row649 → Row643 → Bool
bars limits r = not (minimum_empty limits r)

abbrev pub invariant-loop-here : goal.invariant-loop-here
invariant-loop-here l =
    let s : Left = record { rows = l.rows; settled = l.settled } in
    (l.from ≤ l.rows.view.rows) × Looked s (bars (lent_rows l.t649)) l.from false × Looked s (allows_more (lent_rows l.t649) l.p l.q) l.from l.more

abbrev pub decreases-loop-here : goal.decreases-loop-here
decreases-loop-here l = l.rows.view.rows - l.from
