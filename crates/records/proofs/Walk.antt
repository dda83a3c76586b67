-- A layout walked part by part: what a loop's turn at a part does to what is left, and what is left at the end. Assumes nothing.
use Prim.Native.Nat.{ℕ, ◌+◌, ◌≤◌, ◌<◌}
use mathlib.Core.Bool.{Bool, ◌&&◌}
use mathlib.Core.List.{List, [], ◌∷◌}
use mathlib.Core.Path.{◌≡◌, ap}
use native.Mathlib.Omega.{arith}
use lib.ListN.{length, get_or, drop, drop_of_length-le}
use lib.Seq.{sets}
use Rattle.std.proofs.lemmas.List.{drop_more}
use Rattle.std.specs.Prelude.{IsTrue}
use Rattle.decimals.proofs.Cases.{and_split}
use Rattle.decimals.proofs.Puts.{sets_append}
use Rattle.records.specs.Digits.{chars}
use Rattle.records.specs.Layout.{Part, width, total, every, value, values, fits_part, fits, spelt, spell}
use Rattle.records.specs.Parts.{part_of, parts_of, narrow_part, narrow, to_number, from_number, to_numbers, from_numbers}
use Rattle.records.specs.declared.part.Part.{Part as PartCode}
use Rattle.records.specs.declared.part.Part.TheVariants.{Mutation}
use Rattle.records.proofs.Spelling.{length_spelt}

module _ (l : List PartCode) (i : ℕ) (d : PartCode) (h : i < length l) where
  abbrev at_turn : Part
  at_turn = part_of (get_or l i d)

  abbrev behind : List Part
  behind = parts_of (drop (i + 1) l)

  turn : parts_of (drop i l) ≡ at_turn ∷ behind
  turn = ap parts_of (drop_more l i d h)

  -- what is left has room behind the part
  pub within_turn : (at n : ℕ) {w : ℕ} → w ≡ width at_turn → at + total (parts_of (drop i l)) ≤ n → at + w + total behind ≤ n
  within_turn at n e k = let t : total (parts_of (drop i l)) ≡ width at_turn + total behind = ap total turn in omega arith

  pub every_turn : (test : Part → List ℕ → Bool) (at : ℕ) (s : List ℕ) {b : Bool} → b ≡ test at_turn (chars s at (width at_turn)) → every test (parts_of (drop i l)) at s ≡ (b && every test behind (at + width at_turn) s)
  unfolding every
  every_turn test at s e = rw (turn, e)

  pub numbers_turn : (at : ℕ) (s : List ℕ) {x : ℕ} → x ≡ to_number at_turn (value at_turn (chars s at (width at_turn))) → to_numbers (parts_of (drop i l)) (values (parts_of (drop i l)) at s) ≡ x ∷ to_numbers behind (values behind (at + width at_turn) s)
  unfolding values
  numbers_turn at s e = rw (turn, e)

  pub fits_turn : (n : List ℕ) {b : Bool} → b ≡ fits_part at_turn (from_number at_turn (get_or n i 0)) → fits (parts_of (drop i l)) (from_numbers (parts_of (drop i l)) i n) ≡ (b && fits behind (from_numbers behind (i + 1) n))
  unfolding fits
  fits_turn n e = rw (turn, e)

  -- a part stored in front of those behind it
  pub sets_turn : (buf n : List ℕ) (at : ℕ) → sets buf at (spell (parts_of (drop i l)) (from_numbers (parts_of (drop i l)) i n)) ≡ sets (sets buf at (spelt at_turn (from_number at_turn (get_or n i 0)))) (at + width at_turn) (spell behind (from_numbers behind (i + 1) n))
  unfolding spell
  sets_turn buf n at =
      let v = from_number at_turn (get_or n i 0) in
      rw (turn, sets_append buf at (spelt at_turn v) (spell behind (from_numbers behind (i + 1) n)), length_spelt at_turn v)

-- no part is left
pub none_left : (l : List PartCode) (i : ℕ) → length l ≤ i → parts_of (drop i l) ≡ []
none_left l i h = ap parts_of (drop_of_length-le l h)

pub narrow_turn : (l : List PartCode) (i : ℕ) → i < length l → IsTrue (narrow (parts_of (drop i l))) → IsTrue (narrow (parts_of (drop (i + 1) l)))
narrow_turn l i h k = (and_split (narrow_part (part_of (get_or l i Mutation))) (narrow (parts_of (drop (i + 1) l))) (rw (ap parts_of (drop_more l i Mutation h)) at k)).1
