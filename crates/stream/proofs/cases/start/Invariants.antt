-- Each turn adds the length of one table, of 32 bits. Assumes nothing.
use Prim.Native.Nat.{◌+◌, ◌*◌, ◌≤◌}
use mathlib.Core.Path.{◌≡◌}
use Rattle.stream.specs.Cases.{front_length, start}
use Rattle.stream.proofs.cases.start.Given as goal

abbrev pub invariant-loop-i : goal.invariant-loop-i
invariant-loop-i l = (l.at ≡ start l.case l.i) × (l.at ≤ front_length + l.i * 4_294_967_296)
