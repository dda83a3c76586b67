-- What a question about the rows of a lent table is answered, by their tally. One more table is one more case of the laws at the end.
-- Assumes nothing.
use Prim.Native.Nat.{ℕ, ◌<◌, ◌≤◌}
use mathlib.Core.Path.{◌≡◌, refl, ◌∙◌, ap}
use mathlib.Core.Bool.{Bool, true, false, not}
use native.Mathlib.Omega.{arith}
use borrow.Author.Tests.{ne_eqb}
use lib.Dec.{eqb}
use mathlib.Core.List.{List}
use Rattle.guideline.specs.Table.{some, number}
use Rattle.guideline.specs.declared.rows.TableName.{TableName}
use Rattle.guideline.specs.declared.rows.TableName.TheVariants.{T640, T641, T642, T643, T649, T730, T070}
use Rattle.guideline.specs.declared.view.View.{View}
use Rattle.guideline.specs.Rows.{width, read_row}
use Rattle.guideline.specs.Bytes.{cell}
use Rattle.cells.specs.declared.Tally.{Tally}
use Rattle.cells.specs.Tally.{tallied, told, Tallying}
use Rattle.cells.specs.Lents.{shown_by, tally_by, key_at}
use Rattle.cells.proofs.Tallied.{hits_tallied, some_told, number_told, counted_once, tallying_all}

-- what the tally tells of the rows
module _ {A : Type 0} (read : (ℕ → ℕ) → A) (l : List ℕ) (v : View) (p : A → Bool) where
  abbrev at : ℕ → A
  at i = read (cell l v i)

  pub rows_told : {t : Tally} → t ≡ tally_by read l v p → shown_by read l v p ≡ told t.count (at t.last)
  unfolding shown_by
  rows_told e = rw e (hits_tallied p at v.rows)

  pub rows_some : {t : Tally} → t ≡ tally_by read l v p → some (shown_by read l v p) ≡ not (eqb t.count 0)
  rows_some {t} e = ap some (rows_told e) ∙ some_told t.count (at t.last)

  -- a row with the property is there; no row that a loop has passed has it
  pub rows_found : (i : ℕ) → i < v.rows → p (at i) ≡ true → some (shown_by read l v p) ≡ true
  rows_found i below hit =
      let h : ℕ → Bool = λ j. p (at j) in
      let more : 0 < (tallied h v.rows).count = counted_once h i v.rows below hit in
      rows_some refl ∙ ap not (ne_eqb (tallied h v.rows).count 0 (λ z. let y : (tallied h v.rows).count ≡ 0 = z in omega arith))

  pub rows_missed : {i : ℕ} → Tallying (λ j. p (at j)) v.rows i 0 0 → v.rows ≤ i → some (shown_by read l v p) ≡ false
  rows_missed k all = rows_some (tallying_all (λ j. p (at j)) k all)

  pub rows_number : {t : Tally} → t ≡ tally_by read l v p → number (shown_by read l v p) ≡ t.count
  rows_number {t} e = ap number (rows_told e) ∙ number_told t.count (at t.last)

-- the key of a row is one of its numbers
pub key_inside : (n : TableName) → key_at n < width n
key_inside T640 = omega arith
key_inside T641 = omega arith
key_inside T642 = omega arith
key_inside T643 = omega arith
key_inside T649 = omega arith
key_inside T730 = omega arith
key_inside T070 = omega arith

pub width_some : (n : TableName) → 0 < width n
width_some n = let h : key_at n < width n = key_inside n in omega arith

-- a row is made of its numbers
pub reads : (n : TableName) (f g : ℕ → ℕ) → ((k : ℕ) → k < width n → f k ≡ g k) → read_row n f ≡ read_row n g
reads T640 f g h = rw (h 0 (omega arith), h 1 (omega arith), h 2 (omega arith))
reads T641 f g h = rw (h 0 (omega arith), h 1 (omega arith), h 2 (omega arith), h 3 (omega arith), h 4 (omega arith))
reads T642 f g h = rw (h 0 (omega arith), h 1 (omega arith), h 2 (omega arith), h 3 (omega arith), h 4 (omega arith), h 5 (omega arith))
reads T643 f g h =
    rw (h 0 (omega arith), h 1 (omega arith), h 2 (omega arith), h 3 (omega arith), h 4 (omega arith), h 5 (omega arith), h 6 (omega arith), h 7 (omega arith), h 8 (omega arith), h 9 (omega arith))
reads T649 f g h = rw (h 0 (omega arith), h 1 (omega arith), h 2 (omega arith), h 3 (omega arith))
reads T730 f g h = rw (h 0 (omega arith), h 1 (omega arith), h 2 (omega arith), h 3 (omega arith), h 4 (omega arith))
reads T070 f g h = rw (h 0 (omega arith), h 1 (omega arith), h 2 (omega arith), h 3 (omega arith), h 4 (omega arith), h 5 (omega arith))
