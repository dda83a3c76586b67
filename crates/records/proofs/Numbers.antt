-- Numbers read from digits: what the loop of a field needs, and how large a field's number can be. Assumes nothing.
use Prim.Native.Nat.{ℕ, ◌+◌, ◌-◌, ◌*◌, ◌^◌, ◌≤◌, ◌<◌}
use mathlib.Core.Bool.{Bool, true, false, ◌&&◌}
use mathlib.Core.List.{List, [], ◌∷◌}
use mathlib.Core.Path.{◌≡◌, refl}
use native.Mathlib.Omega.{arith}
use native.Mathlib.Nat.{pow-suc, pow-le-pow_right, mul-one, mul_assoc, mul_comm}
use native.Mathlib.Numerals.{add-one}
use borrow.Author.Tests.{leb-true}
use lib.ListN.{length, get_or, drop, drop_of_length-le}
use Rattle.std.specs.Char.{is_ascii_digit}
use Rattle.std.proofs.lemmas.List.{drop_more}
use lib.Dec.{leb}
use Rattle.std.specs.Prelude.{Result, Ok, Err}
use Rattle.records.specs.Digits.{digits_only, horner, unless}
use Rattle.records.specs.Numbers.{field_of}
use Rattle.decimals.proofs.Cases.{and_split}
use Rattle.records.specs.declared.ReadRefusal.{ReadRefusal}
use Rattle.records.specs.declared.ReadRefusal.TheVariants.{Digit}

-- a field whose digits so far said n
unfoldable pub field_from : ℕ → List ℕ → Result ℕ ReadRefusal
field_from n l = unless (digits_only l) (Err Digit) (Ok (horner n l))

pub from_zero : (l : List ℕ) → field_of l ≡ field_from 0 l
unfolding field_of field_from
from_zero l = refl

pub from_end : (l : List ℕ) (i n : ℕ) → length l ≤ i → field_from n (drop i l) ≡ Ok n
unfolding field_from
from_end l i n h = rw (drop_of_length-le l {i = i} h)

-- a turn of the loop that reads a field, at its i-th character
module _ (l : List ℕ) (i n : ℕ) (h : i < length l) where
  pub from_digit : true ≡ is_ascii_digit (get_or l i 0) → field_from n (drop i l) ≡ field_from (n * 10 + (get_or l i 0 - 48)) (drop (i + 1) l)
  unfolding field_from
  from_digit d = rw (drop_more l i 0 h, ← d)

  pub from_other : false ≡ is_ascii_digit (get_or l i 0) → field_from n (drop i l) ≡ Err Digit
  unfolding field_from
  from_other d = rw (drop_more l i 0 h, ← d)

pub pow_more : (i : ℕ) → 10 ^ (i + 1) ≡ 10 ^ i * 10
pow_more i = rw add-one (pow-suc 10 i)

pub pow_most : (i : ℕ) → i ≤ 12 → 10 ^ i ≤ 10 ^ 12
pow_most i h = pow-le-pow_right (omega arith) h

pub digit_split : (d : ℕ) (l : List ℕ) → digits_only (d ∷ l) ≡ true → (48 ≤ d) × (d ≤ 57) × (digits_only l ≡ true)
digit_split d l e =
    let p = and_split (leb 48 d && leb d 57) (digits_only l) e in
    let q = and_split (leb 48 d) (leb d 57) p.0 in
    (leb-true 48 d q.0, leb-true d 57 q.1, p.1)

horner_below : (a k : ℕ) (l : List ℕ) → a < k → digits_only l ≡ true → horner a l < k * 10 ^ length l
horner_below a k [] h e = simp mul-one h
horner_below a k (d ∷ l) h e =
    let p = digit_split d l e in
    let j : a * 10 + (d - 48) < k * 10 = omega arith in
    rw (pow-suc 10 (length l), mul_comm (10 ^ length l) 10, ← mul_assoc k 10 (10 ^ length l)) (horner_below (a * 10 + (d - 48)) (k * 10) l j p.2)

pub said_below : (l : List ℕ) → digits_only l ≡ true → horner 0 l < 10 ^ length l
said_below l e = omega (arith, horner_below 0 1 l (omega arith) e)

field_split : (b : Bool) (m n : ℕ) → unless b (Err Digit) (Ok m) ≡ Ok n → (b ≡ true) × (m ≡ n)
field_split true m n e = (refl, cc)
field_split false m n e = absurd cc

field_lost : (b : Bool) (m : ℕ) (e : ReadRefusal) → unless b (Err Digit) (Ok m) ≡ Err e → (b ≡ false) × (e ≡ Digit)
field_lost true m e h = absurd cc
field_lost false m e h = (refl, cc)

-- what a field that was read tells of its characters
module _ (l : List ℕ) (n : ℕ) (e : field_of l ≡ Ok n) where
  pub field_digits : digits_only l ≡ true
  unfolding field_of
  field_digits = (field_split (digits_only l) (horner 0 l) n e).0

  pub field_said : horner 0 l ≡ n
  unfolding field_of
  field_said = (field_split (digits_only l) (horner 0 l) n e).1

  pub field_below : (k : ℕ) → length l ≡ k → n < 10 ^ k
  field_below k h = rw (← field_said, ← h) (said_below l field_digits)

-- and one that was refused
module _ (l : List ℕ) (e : ReadRefusal) (h : field_of l ≡ Err e) where
  pub field_none : digits_only l ≡ false
  unfolding field_of
  field_none = (field_lost (digits_only l) (horner 0 l) e h).0

  pub refused_digit : e ≡ Digit
  unfolding field_of
  refused_digit = (field_lost (digits_only l) (horner 0 l) e h).1
