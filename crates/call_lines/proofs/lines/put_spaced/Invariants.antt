-- The numbers that are left complete the line. Assumes nothing.
use Prim.Native.Nat.{◌+◌, ◌*◌, ◌^◌, ◌<◌, ◌≤◌}
use mathlib.Core.Path.{◌≡◌}
use lib.ListN.{length, drop}
use lib.Seq.{sets}
use Rattle.call_lines.specs.Lines.{spaced}
use Rattle.call_lines.proofs.lines.put_spaced.Given as goal

abbrev pub invariant-loop-n : goal.invariant-loop-n
invariant-loop-n l = record {
  inside : l.n-index ≤ length l.others;
  whole : length l.out ≡ length l.initial.out;
  fits : l.last < 2 ^ 64;
  room : l.end ≤ l.at + 21 * l.n-index;
  place : l.end + length (spaced l.last (drop l.n-index l.others)) ≡ l.at + length (spaced l.first l.others);
  bytes : sets l.out l.end (spaced l.last (drop l.n-index l.others)) ≡ sets l.initial.out l.at (spaced l.first l.others);
}
