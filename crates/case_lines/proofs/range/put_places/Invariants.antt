-- The lines of the places that are passed stand behind the place. Assumes nothing.
use Prim.Native.Nat.{◌+◌, ◌*◌, ◌≤◌}
use Rattle.decimals.specs.Put.{Put}
use Rattle.guideline.specs.Counts.{in_turn, numbers_at}
use Rattle.stream.specs.Lines.{line, longest_line}
use Rattle.case_lines.proofs.range.put_places.Given as goal

abbrev pub invariant-loop-i : goal.invariant-loop-i
invariant-loop-i l = (l.end ≤ l.at + l.i * longest_line) × Put l.initial.out l.at (in_turn (λ k. line (numbers_at k l.list)) l.i) l.out l.end
