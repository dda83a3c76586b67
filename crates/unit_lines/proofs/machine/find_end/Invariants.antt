-- What is left of the input gives the same end.
use Prim.Native.Nat.{◌+◌}
use mathlib.Core.Path.{◌≡◌}
use lib.ListN.{drop}
use Rattle.unit_lines.specs.Machine.{end_in}
use Rattle.unit_lines.proofs.machine.find_end.Given as goal

abbrev pub invariant-loop-i : goal.invariant-loop-i
invariant-loop-i l = l.i + end_in l.last (drop l.i l.input) ≡ l.from + end_in l.before (drop l.from l.input)
