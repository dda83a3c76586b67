-- A turn writes lines into the buffer, or finds no room in it; behind it the buffer is free. Assumes nothing.
use Rattle.std.proofs.Common.{ℕ, zero, suc, ◌+◌, ◌*◌, ◌-◌, ◌≤◌, ◌≡◌, length}
use Rattle.stream.specs.Cases.{entry_count}
use Rattle.bulk.proofs.answer_case.Given as goal

-- lines stand in the buffer, or none
abbrev pub used : ℕ → ℕ
used zero = 0
used (suc n) = 1

abbrev pub invariant-loop-left : goal.invariant-loop-left
invariant-loop-left g l = (l.next ≤ entry_count l.case) × (l.end ≤ length l.out) × (length l.out ≡ length l.initial.out)

abbrev pub decreases-loop-left : goal.decreases-loop-left
decreases-loop-left g l = 2 * (entry_count l.case - l.next) + used l.end
