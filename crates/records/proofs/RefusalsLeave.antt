-- Whatever the file: a refused write leaves the buffer as it was; a write that is done touches nothing outside its characters.
use Prim.Native.Nat.{ℕ, ◌+◌}
use mathlib.Core.List.{List}
use mathlib.Core.Path.{◌≡◌}
use lib.ListN.{length, take, drop}
use Rattle.records.specs.Layout.{total}
use Rattle.records.specs.File.{File, writing, leaves}
use Rattle.records.proofs.Placed as placed

module _ {Record : Type 0} (f : File Record) (r : Record) (at : ℕ) (old : List ℕ) where
  pub too_wide_leaves : writing f r at (length old) ≡ 205 → leaves f r at old ≡ old
  unfolding writing leaves
  too_wide_leaves e = placed.too_wide_leaves f.layout (f.values_of r) at old e

  pub no_room_leaves : writing f r at (length old) ≡ 206 → leaves f r at old ≡ old
  unfolding writing leaves
  no_room_leaves e = placed.no_room_leaves f.layout (f.values_of r) at old e

  pub done_before : writing f r at (length old) ≡ 0 → take at (leaves f r at old) ≡ take at old
  unfolding writing leaves
  done_before e = placed.done_before f.layout (f.values_of r) at old e

  pub done_after : writing f r at (length old) ≡ 0 → drop (at + total f.layout) (leaves f r at old) ≡ drop (at + total f.layout) old
  unfolding writing leaves
  done_after e = placed.done_after f.layout (f.values_of r) at old e
