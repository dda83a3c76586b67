-- P1, the reason for it: where two rows meet, no value fits both, and each value from the low bound of the first to below the high bound of the
-- next fits exactly one. So for age (a value is 1,000 times the months), weight and surface of two rows of table 643 of which the next passes
-- 122. Assumes nothing.
use Prim.Native.Nat.{ℕ, ◌<◌, ◌≤◌}
use mathlib.Core.Path.{◌≡◌, refl, sym, ◌∙◌}
use mathlib.Core.Bool.{Bool, true, false, not, ◌&&◌, and-false, false≢true}
use native.Mathlib.Omega.{arith}
use borrow.Author.Tests.{leb-true, ltb-true, ltb-false, lt-ltb, le-ltb, le-leb, lt-leb, ne_eqb}
use lib.Dec.{leb, ltb}
use Rattle.guideline.specs.Types.{T643, Bounds}
use Rattle.guideline.specs.Values.{no_bound, bounds_in_range, fits}
use Rattle.guideline.specs.Rows.{Row, age_bounds, weight_bounds, surface_bounds, sound_row}

-- the high bound of the first is the low bound of the next, and both have width
pub record Meet (first next : Bounds) : Type 0 where
  pub joint : first.high ≡ next.low
  pub first_has_width : first.low < first.high
  pub next_has_width : next.low < next.high

-- what is promised of them: one of two fits where the one does not and the other does
pub record Parted (first next : Bounds) : Type 0 where
  pub never_both : (x : ℕ) → (fits first x && fits next x) ≡ false
  pub exactly_one : (x : ℕ) → first.low ≤ x → x < next.high → fits next x ≡ not (fits first x)

-- a value below the low bound; from the low to below the high; from the high on
below_low : (b : Bounds) (x : ℕ) → x < b.low → fits b x ≡ false
unfolding fits
below_low b x h = rw (lt-leb b.low x h)

from_low_to_below_high : (b : Bounds) (x : ℕ) → b.low ≤ x → x < b.high → fits b x ≡ true
unfolding fits
from_low_to_below_high b x h k = rw (le-leb b.low x h, lt-ltb x b.high k)

from_high : (b : Bounds) (x : ℕ) → b.low < b.high → b.high < no_bound → b.high ≤ x → fits b x ≡ false
unfolding fits
from_high b x width bound h =
    rw (le-ltb x b.high h, ne_eqb b.high no_bound (λ e. omega arith), ne_eqb b.low b.high (λ e. omega arith)) (and-false (leb b.low x))

unless_false : (s : Bool) → (s ≡ false → ⊥) → s ≡ true
unless_false true h = refl
unless_false false h = absurd (h refl)

not_above_no_bound : (b : Bounds) → bounds_in_range b ≡ true → b.high ≤ no_bound
unfolding bounds_in_range
not_above_no_bound b h =
    leb-true b.high no_bound (unless_false (leb b.high no_bound) (λ z. false≢true (sym (let k : bounds_in_range b ≡ false = simp (z, and-false) in k) ∙ h)))

module _ (first next : Bounds) (meet : Meet first next) (passes-122 : bounds_in_range next ≡ true) where
  -- the next ends at 999,999 at most, so that the first ends below that
  first_from_joint : (x : ℕ) → next.low ≤ x → fits first x ≡ false
  first_from_joint x h =
      let top = not_above_no_bound next passes-122 in
      from_high first x meet.first_has_width (omega (arith, meet.joint, meet.next_has_width, top)) (omega (arith, meet.joint))

  no_value_fits_both : (x : ℕ) → (fits first x && fits next x) ≡ false
  no_value_fits_both x = go (ltb x next.low) (ltb-true x next.low) (ltb-false x next.low)
    where
      go : (s : Bool) → (s ≡ true → x < next.low) → (s ≡ false → next.low ≤ x) → (fits first x && fits next x) ≡ false
      go true below from = rw (below_low next x (below refl)) (and-false (fits first x))
      go false below from = rw (first_from_joint x (from refl))

  each_value_fits_one : (x : ℕ) → first.low ≤ x → x < next.high → fits next x ≡ not (fits first x)
  each_value_fits_one x low high = go (ltb x next.low) (ltb-true x next.low) (ltb-false x next.low)
    where
      go : (s : Bool) → (s ≡ true → x < next.low) → (s ≡ false → next.low ≤ x) → fits next x ≡ not (fits first x)
      go true below from =
          rw (below_low next x (below refl), from_low_to_below_high first x low (omega (arith, meet.joint, below refl)))
      go false below from = rw (first_from_joint x (from refl), from_low_to_below_high next x (from refl) high)

  pub parted : Parted first next
  parted = record { never_both = no_value_fits_both; exactly_one = each_value_fits_one }

-- the three pairs of bounds of a row that passes 122
module _ (r : Row T643) (passes-122 : sound_row T643 r ≡ true) where
  of_sound : (s : Bool) → (s ≡ false → sound_row T643 r ≡ false) → s ≡ true
  of_sound s h = unless_false s (λ z. false≢true (sym (h z) ∙ passes-122))

  ages_in_range : bounds_in_range (age_bounds r) ≡ true
  unfolding sound_row
  ages_in_range = of_sound (bounds_in_range (age_bounds r)) (λ z. simp (z, and-false))

  weights_in_range : bounds_in_range (weight_bounds r) ≡ true
  unfolding sound_row
  weights_in_range = of_sound (bounds_in_range (weight_bounds r)) (λ z. simp (z, and-false))

  surfaces_in_range : bounds_in_range (surface_bounds r) ≡ true
  unfolding sound_row
  surfaces_in_range = of_sound (bounds_in_range (surface_bounds r)) (λ z. simp (z, and-false))

module _ (first next : Row T643) (passes-122 : sound_row T643 next ≡ true) where
  pub ages_parted : Meet (age_bounds first) (age_bounds next) → Parted (age_bounds first) (age_bounds next)
  ages_parted meet = parted (age_bounds first) (age_bounds next) meet (ages_in_range next passes-122)

  pub weights_parted : Meet (weight_bounds first) (weight_bounds next) → Parted (weight_bounds first) (weight_bounds next)
  weights_parted meet = parted (weight_bounds first) (weight_bounds next) meet (weights_in_range next passes-122)

  pub surfaces_parted : Meet (surface_bounds first) (surface_bounds next) → Parted (surface_bounds first) (surface_bounds next)
  surfaces_parted meet = parted (surface_bounds first) (surface_bounds next) meet (surfaces_in_range next passes-122)
