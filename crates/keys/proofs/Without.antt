-- Runs of rows without a key. Assumes nothing.
use Prim.Native.Nat.{ℕ, ◌+◌, ◌<◌, ◌≤◌}
use mathlib.Core.Path.{◌≡◌, refl, subst}
use mathlib.Core.Logic.{⊎_elim}
use mathlib.Core.Bool.{Bool, true, false, ◌||◌}
use native.Mathlib.Nat.{eq-or-lt_of_le}
use native.Mathlib.Omega.{arith}
use borrow.Author.Tests.{eqb-false, ltb-true, ltb-false}
use lib.Dec.{ltb}
use Rattle.keys.specs.Keys.{Without, has_key, in_four}

-- no rows; one row; four rows; rows and further rows
module _ (f : ℕ → ℕ) (key : ℕ) where
  abbrev Other : ℕ → Type 0
  Other i = f i ≡ key → ⊥

  moved : (i j : ℕ) → i ≡ j → Other i → Other j
  moved i j e other = subst Other e other

  pub without_none : (a : ℕ) → Without f key a a
  without_none a i above below same = omega arith

  pub without_one : (i : ℕ) → Other i → Without f key i (i + 1)
  without_one i other j above below = moved i j (omega arith) other

  none_of_four : (p q r s : Bool) → ((p || q) || (r || s)) ≡ false → (p ≡ false) × (q ≡ false) × (r ≡ false) × (s ≡ false)
  none_of_four false false false false h = (refl, refl, refl, refl)
  none_of_four false false false true h = absurd (let z : ◌≡◌ {A = ℕ} 0 1 = cc in let n : ⊥ = omega arith in n)
  none_of_four false false true s h = absurd (let z : ◌≡◌ {A = ℕ} 0 1 = cc in let n : ⊥ = omega arith in n)
  none_of_four false true r s h = absurd (let z : ◌≡◌ {A = ℕ} 0 1 = cc in let n : ⊥ = omega arith in n)
  none_of_four true q r s h = absurd (let z : ◌≡◌ {A = ℕ} 0 1 = cc in let n : ⊥ = omega arith in n)

  pub without_four : (i : ℕ) → in_four f key i ≡ false → Without f key i (i + 4)
  unfolding in_four
  without_four i h j above below =
      let none = none_of_four (has_key f key i) (has_key f key (i + 1)) (has_key f key (i + 2)) (has_key f key (i + 3)) h in
      ⊎_elim (λ e. moved i j e (eqb-false (f i) key none.0))
      (λ more. ⊎_elim (λ e. moved (i + 1) j e (eqb-false (f (i + 1)) key none.1))
      (λ more. ⊎_elim (λ e. moved (i + 2) j e (eqb-false (f (i + 2)) key none.2))
      (λ more. moved (i + 3) j (omega arith) (eqb-false (f (i + 3)) key none.3))
      (eq-or-lt_of_le {n = i + 2} {m = j} (omega arith)))
      (eq-or-lt_of_le {n = i + 1} {m = j} (omega arith)))
      (eq-or-lt_of_le above)

  pub without_both : (a b c : ℕ) → Without f key a b → Without f key b c → Without f key a c
  without_both a b c h more j above below = go (ltb j b) (ltb-true j b) (ltb-false j b)
    where
      go : (t : Bool) → (t ≡ true → j < b) → (t ≡ false → b ≤ j) → Other j
      go true is less = h j above (is refl)
      go false is less = more j (less refl) below
