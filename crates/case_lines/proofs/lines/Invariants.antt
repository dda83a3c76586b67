-- The lines of the entries that are passed stand behind the place. Assumes nothing.
use Prim.Native.Nat.{◌-◌, ◌≤◌}
use lib.ListN.{length}
use Rattle.decimals.specs.Put.{Put}
use Rattle.case_lines.specs.Lines.{lines_from}
use Rattle.case_lines.proofs.lines.Given as goal

abbrev pub invariant-loop-i : goal.invariant-loop-i
invariant-loop-i l = (l.end ≤ length l.out) × Put l.initial.out l.at (lines_from l.form l.case l.from (l.i - l.from)) l.out l.end
