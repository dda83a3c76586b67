-- The digits that are left, stored in front, complete the number.
use Prim.Native.Nat.{◌≤◌, ◌-◌}
use mathlib.Core.Path.{◌≡◌}
use lib.ListN.{length}
use lib.Seq.{sets}
use Rattle.decimals.specs.Decimal.{digits}
use Rattle.decimals.proofs.put_digits.Given as goal

abbrev pub invariant-loop-place : goal.invariant-loop-place
invariant-loop-place l = (l.at ≤ l.place) × (length l.out ≡ length l.initial.out) × (sets l.out l.at (digits (l.place - l.at) l.rest) ≡ sets l.initial.out l.at (digits l.width l.n))
