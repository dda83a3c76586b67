-- Each turn reads bytes or finds the end of the stream, and nothing is read behind it. Assumes nothing.
use Rattle.std.proofs.Common.{ℕ, ◌+◌, ◌*◌, ◌-◌, ◌≤◌, ◌≡◌, Bool, true, false, length}
use Rattle.stream.specs.Cases.{longest_case}
use Rattle.bulk.proofs.read_case.Given as goal

-- a turn that finds the end is the last that reads
abbrev pub turn_left : Bool → ℕ
turn_left true = 0
turn_left false = 1

abbrev pub invariant-loop-until : goal.invariant-loop-until
invariant-loop-until g l = (l.have ≤ longest_case) × (length l.case ≡ length l.initial.case)

abbrev pub decreases-loop-until : goal.decreases-loop-until
decreases-loop-until g l = 2 * (longest_case - l.have) + turn_left l.ended
