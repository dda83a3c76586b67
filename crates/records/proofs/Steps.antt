-- The tests of a reader and of a writer in turn, whatever the layout: what each answers. Assumes nothing.
use Prim.Native.Nat.{ℕ, ◌+◌}
use mathlib.Core.Bool.{Bool, true, false}
use mathlib.Core.List.{List}
use mathlib.Core.Path.{◌≡◌, refl, sym}
use native.Mathlib.Omega.{arith}
use borrow.Author.Tests.{eq-eqb, ne_eqb, leb-true}
use lib.ListN.{length}
use lib.Dec.{leb}
use lib.Seq.{sets}
use Rattle.records.specs.Digits.{unless}
use Rattle.records.specs.Layout.{Part, Values, said, refused, read_by, total, every, fixed_part, digit_part, mutation_part, values, numbers, scan, fits, spell, answer, leaving}
use Rattle.records.specs.Parts.{from_numbers, to_numbers}
use Rattle.records.proofs.LayoutLaws.{fits_values, from_to_numbers, unless_said, said_same}
use Rattle.decimals.proofs.Puts.{stored}
use Rattle.records.proofs.Spelling.{length_spell}

module _ {R : Type 0} (ps : List Part) (g : Values ps → R) (s : List ℕ) where
  pub other_length : (length s ≡ total ps → ⊥) → refused 201 ≡ read_by g (scan ps s)
  unfolding scan
  other_length n = rw (ne_eqb (length s) (total ps) n)

  pub other_text : length s ≡ total ps → every fixed_part ps 0 s ≡ false → refused 202 ≡ read_by g (scan ps s)
  unfolding scan
  other_text l f = rw (eq-eqb (length s) (total ps) l, f)

  module _ (l : length s ≡ total ps) (f : every fixed_part ps 0 s ≡ true) where
    pub by_numbers : read_by g (numbers ps s) ≡ read_by g (scan ps s)
    unfolding scan
    by_numbers = rw (eq-eqb (length s) (total ps) l, f)

    pub no_digits : every digit_part ps 0 s ≡ false → refused 203 ≡ read_by g (scan ps s)
    unfolding scan numbers
    no_digits d = rw (eq-eqb (length s) (total ps) l, f, d)

    pub high_digit : every digit_part ps 0 s ≡ true → every mutation_part ps 0 s ≡ false → refused 204 ≡ read_by g (scan ps s)
    unfolding scan numbers
    high_digit d m = rw (eq-eqb (length s) (total ps) l, f, d, m)

    pub all_read : every digit_part ps 0 s ≡ true → every mutation_part ps 0 s ≡ true → said (g (values ps 0 s)) ≡ read_by g (scan ps s)
    unfolding scan numbers
    all_read d m = rw (eq-eqb (length s) (total ps) l, f, d, m)

-- what the answer of one test, among a refusal and what follows, tells of it
pub lacking : {A : Type 0} (b : Bool) (m n : ℕ) (v : A) → refused n ≡ unless b (refused m) (said v) → (b ≡ false) × (n ≡ m)
lacking true m n v e = absurd cc
lacking false m n v e = (refl, cc)

-- numbers that were read: each part had digits, and what then does not fit is the mutation digit
pub read : (ps : List Part) (s n : List ℕ) → length s ≡ total ps → said n ≡ unless (every digit_part ps 0 s) (refused 203) (said (to_numbers ps (values ps 0 s))) →
    (every digit_part ps 0 s ≡ true) × (n ≡ to_numbers ps (values ps 0 s)) × (fits ps (from_numbers ps 0 n) ≡ every mutation_part ps 0 s)
read ps s n l e =
    let (d, h) = unless_said _ 203 (said (to_numbers ps (values ps 0 s))) n (sym e) in
    let m : n ≡ to_numbers ps (values ps 0 s) = sym (said_same _ _ h) in
    (d, m, rw (m, from_to_numbers ps (values ps 0 s)) (fits_values ps 0 s (omega (arith, l)) d))

module _ (ps : List Part) (v : Values ps) (at : ℕ) (old : List ℕ) where
  pub too_wide : fits ps v ≡ false → (205 ≡ answer ps v at (length old)) × (old ≡ leaving ps v at old)
  unfolding answer leaving
  too_wide e = (rw e, rw e)

  pub no_room : fits ps v ≡ true → leb (at + total ps) (length old) ≡ false → (206 ≡ answer ps v at (length old)) × (old ≡ leaving ps v at old)
  unfolding answer leaving
  no_room e n = (rw (e, n), rw (e, n))

  pub done : fits ps v ≡ true → leb (at + total ps) (length old) ≡ true → (0 ≡ answer ps v at (length old)) × (sets old at (spell ps v) ≡ leaving ps v at old)
  unfolding answer leaving
  done e n = (rw (e, n), rw (e, n) (stored old at (spell ps v) (rw (length_spell ps v) (leb-true _ _ n))))
