-- What is left of the input, in the room that is left, gives the whole run.
use Prim.Native.Nat.{◌≤◌, ◌-◌}
use mathlib.Core.Path.{◌≡◌}
use lib.ListN.{length}
use Rattle.unit_lines.proofs.Whole.{Rest, run_from}
use Rattle.unit_lines.proofs.machine.list_whole.Given as goal

abbrev pub invariant-loop-e : goal.invariant-loop-e
invariant-loop-e l = (l.next ≤ length l.input) × (l.end ≤ length l.initial.out) × (length l.out ≡ length l.initial.out) × Rest (run_from l.input l.from l.initial.out l.at) (run_from l.input l.next l.out l.end) l.from l.initial.out l.at l.out l.next l.end

abbrev pub decreases-loop-e : goal.decreases-loop-e
decreases-loop-e l = length l.input - l.next
