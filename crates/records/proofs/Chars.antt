-- Characters at a place, and texts held against each other. Assumes nothing.
use Prim.Native.Nat.{ℕ, ◌+◌, ◌-◌, ◌≤◌}
use mathlib.Core.Bool.{Bool, ◌&&◌}
use mathlib.Core.List.{List, [], ◌∷◌}
use mathlib.Core.Path.{◌≡◌, refl, ap}
use native.Mathlib.Omega.{arith}
use lib.ListN.{length, take, drop, length-take, length-drop}
use lib.Pointwise.{pointwise}
use lib.Dec.{eqb}
use Rattle.records.specs.Digits.{chars, same}

-- a part of a slice, as the code borrows it
pub chars_part : (s : List ℕ) (at k : ℕ) → take (at + k - at) (drop at s) ≡ chars s at k
chars_part s at k = let e : at + k - at ≡ k = omega arith in rw e

pub length_chars : (s : List ℕ) (at k : ℕ) → at + k ≤ length s → length (chars s at k) ≡ k
length_chars s at k h = simp (length-take, length-drop) (omega arith)

same_pointwise : (t c : List ℕ) → pointwise eqb t c ≡ same t c
same_pointwise [] [] = refl
same_pointwise [] (b ∷ c) = refl
same_pointwise (a ∷ t) [] = refl
same_pointwise (a ∷ t) (b ∷ c) = ap (λ (x : Bool). eqb a b && x) (same_pointwise t c)

-- a text held against a part of a slice
pub same_part : (t s : List ℕ) (at : ℕ) → pointwise eqb t (take (at + length t - at) (drop at s)) ≡ same t (chars s at (length t))
same_part t s at = rw (chars_part s at (length t)) (same_pointwise t (chars s at (length t)))
