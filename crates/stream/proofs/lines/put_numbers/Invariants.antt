-- What is left to write is the line of the numbers that are left. Assumes nothing.
use Prim.Native.Nat.{◌+◌, ◌*◌, ◌≤◌}
use mathlib.Core.Path.{◌≡◌}
use lib.ListN.{length, drop}
use lib.Seq.{sets}
use Rattle.stream.specs.Lines.{line, longest_field}
use Rattle.stream.proofs.lines.put_numbers.Given as goal

abbrev pub invariant-loop-i : goal.invariant-loop-i
invariant-loop-i l = (l.end ≤ l.at + l.i * longest_field)
    × (l.end + length (line (drop l.i l.numbers)) ≡ l.at + length (line l.numbers))
    × (sets l.buf l.end (line (drop l.i l.numbers)) ≡ sets l.initial.buf l.at (line l.numbers))
