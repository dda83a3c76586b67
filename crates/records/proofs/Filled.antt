-- A part of a slice written over whole. Assumes nothing.
use Prim.Native.Nat.{ℕ, ◌+◌, ◌-◌, ◌≤◌}
use mathlib.Core.List.{List, append_assoc, append-nil}
use mathlib.Core.Path.{◌≡◌, ◌∙◌}
use native.Mathlib.Omega.{arith}
use borrow.Rule.Slice.PartMut.{put_mid}
use lib.ListN.{length, take, drop, drop_of_length-le}
use lib.Seq.{sets, sets-eq, drop-drop}
use Rattle.decimals.proofs.Puts.{stored}
use Rattle.records.specs.Digits.{chars}
use Rattle.records.proofs.Chars.{length_chars}

whole : (c t : List ℕ) → length c ≡ length t → sets c 0 t ≡ t
whole c t e =
    let none = drop_of_length-le c {i = 0 + length t} (omega arith) in
    stored c 0 t (omega arith) ∙ rw (none, append-nil)

pub filled : (old new t : List ℕ) (at k : ℕ) → at + k ≤ length old → length t ≡ k → new ≡ sets (take (at + k - at) (drop at old)) 0 t → put_mid at (at + k - at) old new ≡ sets old at t
filled old new t at k h l e =
    let d : at + k - at ≡ k = omega arith in
    let m : length (chars old at k) ≡ length t = length_chars old at k h ∙ omega arith in
    let n : new ≡ t = rw d at e ∙ whole (chars old at k) t m in
    rw (n, d, ← l, sets-eq t old at (omega arith), drop-drop, append_assoc)
