-- Lines in the pieces in which they are written. Assumes nothing.
use Prim.Native.Nat.{ℕ, suc, ◌+◌, ◌*◌, ◌-◌, ◌/◌, ◌%◌, ◌<◌, ◌≤◌}
use mathlib.Core.List.{List, [], ◌∷◌, ◌++◌}
use mathlib.Core.Path.{◌≡◌, refl, ◌∙◌}
use native.Mathlib.Omega.{arith}
use native.Mathlib.Numerals.{add-one}
use lib.ListN.{length, get_or, set, take, drop, drop_of_length-le, length-append}
use lib.Seq.{sets, drop-cons}
use Rattle.decimals.specs.Decimal.{space, line_feed, field}
use Rattle.decimals.specs.Put.{Put}
use Rattle.decimals.proofs.Puts.{sets_append}
use Rattle.records.specs.Layout.{refused}
use Rattle.records.specs.Digits.{chars}
use Rattle.records.specs.File.{File, reading}
use Rattle.records.specs.Numbers.{read_refusal, read_numbers}
use Rattle.records.specs.declared.ReadRefusal.{ReadRefusal}
use Rattle.records.specs.declared.ReadRefusal.TheVariants.{Length, Fixed, Digit, Mutation}
use Rattle.call_lines.specs.Lines.{front, spaced, read_line, read_call, hex_digit, hex}

-- a turn of the loop that writes two digits for a byte
pub hex_turn : (b l : List ℕ) (end i high low : ℕ) → i < length l → high ≡ hex_digit (get_or l i 0 / 16) → low ≡ hex_digit (get_or l i 0 % 16) →
    sets (set (set b end high) (end + 1) low) (end + 2) (hex (drop (i + 1) l)) ≡ sets b end (hex (drop i l))
unfolding hex
hex_turn b l end i high low h e f =
    let first : end + 1 ≡ suc end = omega arith in
    let second : end + 2 ≡ suc (suc end) = omega arith in
    rw (drop-cons l i 0 h, add-one i, e, f, first, second)

pub length_hex : (l : List ℕ) → length (hex l) ≡ 2 * length l
unfolding hex
length_hex [] = refl
length_hex (b ∷ l) = omega (arith, length_hex l)

-- the end of that loop
pub hex_end : (b old l : List ℕ) (at end i : ℕ) → i ≤ length l → length l ≤ i → end ≡ at + 2 * i → sets b end (hex (drop i l)) ≡ sets old at (hex l) → Put old at (hex l) b end
unfolding hex
hex_end b old l at end i h j e f =
    let none = drop_of_length-le l j in
    record { bytes = rw none at f; place = omega (arith, length_hex l) }

-- a turn of the loop that writes numbers, each with a space behind it
module _ (b new others : List ℕ) (last end end' i : ℕ) (inside : i < length others) (p : Put b end (field last space) new end') where
  spaced_on : spaced last (drop i others) ≡ field last space ++ spaced (get_or others i 0) (drop (i + 1) others)
  unfolding spaced
  spaced_on = rw (drop-cons others i 0 inside, add-one i)

  pub spaced_turn : sets new end' (spaced (get_or others i 0) (drop (i + 1) others)) ≡ sets b end (spaced last (drop i others))
  spaced_turn = rw (spaced_on, sets_append b end (field last space) (spaced (get_or others i 0) (drop (i + 1) others)), ← p.bytes, ← p.place)

  pub spaced_place : end' + length (spaced (get_or others i 0) (drop (i + 1) others)) ≡ end + length (spaced last (drop i others))
  spaced_place = rw (spaced_on, length-append (field last space) (spaced (get_or others i 0) (drop (i + 1) others))) (omega (arith, p.place))

-- the end of that loop
pub spaced_end : (b new old others : List ℕ) (last first end end' at i : ℕ) → length others ≤ i → Put b end (field last line_feed) new end' → end + length (spaced last (drop i others)) ≡ at + length (spaced first others)
    → sets b end (spaced last (drop i others)) ≡ sets old at (spaced first others) → Put old at (spaced first others) new end'
unfolding spaced
spaced_end b new old others last first end end' at i h p e f =
    let none = drop_of_length-le others h in
    record { bytes = p.bytes ∙ (rw none at f); place = p.place ∙ (rw none at e) }

-- a refusal's line is its number alone
pub refused_line : {Record : Type 0} (f : File Record) (e : ReadRefusal) → read_line (read_numbers f (refused (read_refusal e))) ≡ field (read_refusal e) line_feed
unfolding read_line spaced
refused_line f Length = refl
refused_line f Fixed = refl
refused_line f Digit = refl
refused_line f Mutation = refl

-- and the line of a call whose bytes a reader refused
pub read_refused : {Record : Type 0} (f : File Record) (s : List ℕ) (n number : ℕ) (e : ReadRefusal) → refused (read_refusal e) ≡ reading f (take (front + n - front) (drop front s)) → number ≡ read_refusal e →
    read_call f s n ≡ field number line_feed
read_refused f s n number e h is =
    let k : front + n - front ≡ n = omega arith in
    let r : refused (read_refusal e) ≡ reading f (chars s front n) = rw k at h in
    rw (← r, is) (refused_line f e)
