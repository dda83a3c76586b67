-- `put_hex` meets its contract: the bytes that are left complete the text. Assumes nothing.
use Prim.Native.Nat.{◌+◌, ◌*◌, ◌-◌, ◌≤◌}
use mathlib.Core.Path.{◌≡◌}
use lib.ListN.{length, drop}
use lib.Seq.{sets}
use Rattle.call_lines.specs.Lines.{hex}
use Rattle.call_lines.proofs.hex.put_hex.Given as goal

abbrev pub invariant-loop-b : goal.invariant-loop-b
invariant-loop-b l = (l.b-index ≤ length l.bytes) × (l.end ≡ l.at + 2 * l.b-index) × (length l.out ≡ length l.initial.out) × (sets l.out l.end (hex (drop l.b-index l.bytes)) ≡ sets l.initial.out l.at (hex l.bytes))

abbrev pub decreases-loop-b : goal.decreases-loop-b
decreases-loop-b l = length l.bytes - l.b-index
