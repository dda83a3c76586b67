-- Moving whole rows of a lent table is a reordering: bytes made of the same rows in another order spell the same table in another order, so
-- that by guideline's `order_of_bytes` no number of an answer changes. Exhibited on table 641 of document 01's proof table. Assumes nothing.
use Prim.Native.Nat.{ℕ, zero, suc, ◌+◌, ◌*◌, ◌/◌, ◌%◌, ◌<◌, ◌≤◌}
use mathlib.Core.Path.{◌≡◌, refl, sym, ◌∙◌, ap, ap₂}
use mathlib.Core.List.{List, [], ◌∷◌, ◌++◌, map}
use native.Mathlib.Omega.{arith}
use native.Mathlib.Nat.{add_assoc, zero-mul, suc-mul, add-mul, mul_assoc, mul-le-mul_right, mul-div_cancel, mul-mod_left}
use lib.ListN.{length, length-append}
use lib.Seq.{get_or-append-add}
use Rattle.numbers.specs.Words.{word, word_bytes}
use Rattle.numbers.proofs.ReadBack.{word_on}
use Rattle.guideline.specs.declared.rows.TableName.{TableName}
use Rattle.guideline.specs.declared.rows.TableName.TheVariants.{T641}
use Rattle.guideline.specs.Rows.{Row, width, read_row}
use Rattle.guideline.specs.Bytes.{cell, listed, rows_in, seen, by_rows, rows_of}
use Rattle.guideline.proofs.Shuffle.{Shuffled, none, same, swap, then, Reordered, whole_reordering}
use Rattle.cells.proofs.Lents.{reads, width_some}

-- the bytes of a table, row by row. As in `rows_of` the last row stands first
abbrev pub joined : List (List ℕ) → List ℕ
joined [] = []
joined (r ∷ l) = joined l ++ r

-- each is the bytes of one row
abbrev pub Rowly : TableName → List (List ℕ) → Type 0
Rowly n [] = Unit {0}
Rowly n (r ∷ l) = (length r ≡ width n * 4) × Rowly n l

abbrev pub row_of : (n : TableName) → List ℕ → Row n
row_of n r = read_row n (λ k. word r (k * 4))

word_behind : (l r : List ℕ) (at : ℕ) → word (l ++ r) (length l + at) ≡ word r at
unfolding word
word_behind l r at =
    rw (add_assoc (length l) at 1, add_assoc (length l) at 2, add_assoc (length l) at 3, get_or-append-add l r at 0, get_or-append-add l r (at + 1) 0, get_or-append-add l r (at + 2) 0, get_or-append-add l r (at + 3) 0)

module _ (n : TableName) where
  joined_length : (l : List (List ℕ)) → Rowly n l → length (joined l) ≡ length l * (width n * 4)
  joined_length [] h = sym (zero-mul (width n * 4))
  joined_length (r ∷ l) h =
      length-append (joined l) r ∙ ap₂ ◌+◌ (joined_length l h.1) h.0 ∙ sym (suc-mul (length l) (width n * 4))

  -- the last row, and the rows before it
  last_row : (l : List ℕ) (r : List ℕ) (m : ℕ) → length l ≡ m * (width n * 4) → read_row n (cell (l ++ r) (by_rows n (l ++ r)) m) ≡ row_of n r
  last_row l r m e = reads n _ _ (λ k below. ap (word (l ++ r)) (place k) ∙ word_behind l r (k * 4))
    where
      place : (k : ℕ) → (0 + m * width n + k * 1) * 4 ≡ length l + k * 4
      place k = rw e (let a : m * width n * 4 ≡ m * (width n * 4) = mul_assoc m (width n) 4 in let b : (m * width n + k) * 4 ≡ m * width n * 4 + k * 4 = add-mul (m * width n) k 4 in omega arith)

  row_before : (l : List ℕ) (r : List ℕ) (m i : ℕ) → length l ≡ m * (width n * 4) → i < m → read_row n (cell (l ++ r) (by_rows n (l ++ r)) i) ≡ read_row n (cell l (by_rows n l) i)
  row_before l r m i e below =
      reads n _ _ (λ k inside. word_on l r ((0 + i * width n + k * 1) * 4) (room k inside))
    where
      room : (k : ℕ) → k < width n → (0 + i * width n + k * 1) * 4 + 4 ≤ length l
      room k inside =
          let a : (i + 1) * (width n * 4) ≤ m * (width n * 4) = mul-le-mul_right (width n * 4) (omega arith) in
          let b : (i + 1) * (width n * 4) ≡ i * (width n * 4) + 1 * (width n * 4) = add-mul i 1 (width n * 4) in
          let c : i * width n * 4 ≡ i * (width n * 4) = mul_assoc i (width n) 4 in
          let d : (i * width n + k) * 4 ≡ i * width n * 4 + k * 4 = add-mul (i * width n) k 4 in
          omega (arith, e)

  listed_before : (l r : List ℕ) (m j : ℕ) → length l ≡ m * (width n * 4) → j ≤ m → listed j (λ i. read_row n (cell (l ++ r) (by_rows n (l ++ r)) i)) ≡ listed j (λ i. read_row n (cell l (by_rows n l) i))
  listed_before l r m zero e h = refl
  listed_before l r m (suc j) e h = ap₂ ◌∷◌ (row_before l r m j e (omega arith)) (listed_before l r m j e (omega arith))

  joined_listed : (l : List (List ℕ)) → Rowly n l → listed (length l) (λ i. read_row n (cell (joined l) (by_rows n (joined l)) i)) ≡ map (row_of n) l
  joined_listed [] h = refl
  joined_listed (r ∷ l) h =
      ap₂ ◌∷◌ (last_row (joined l) r (length l) (joined_length l h.1))
      (listed_before (joined l) r (length l) (length l) (joined_length l h.1) (omega arith) ∙ joined_listed l h.1)

  -- the bytes of so many rows are so many rows, and no byte more
  joined_rows : (l : List (List ℕ)) → Rowly n l → rows_in (width n) (joined l) ≡ length l
  joined_rows l h =
      let w = width_some n in
      ap (λ (k : ℕ). k / (width n * 4)) (joined_length l h) ∙ mul-div_cancel (length l) {n = width n * 4} (omega arith)

  joined_whole : (l : List (List ℕ)) → Rowly n l → length (joined l) % (width n * 4) ≡ 0
  joined_whole l h = ap (λ (k : ℕ). k % (width n * 4)) (joined_length l h) ∙ mul-mod_left (length l) (width n * 4)

  pub joined_spells : (l : List (List ℕ)) → Rowly n l → rows_of n (joined l) ≡ map (row_of n) l
  unfolding seen
  joined_spells l h = ap (λ (k : ℕ). listed k (λ i. read_row n (cell (joined l) (by_rows n (joined l)) i))) (joined_rows l h) ∙ joined_listed l h

  map_shuffled : {l m : List (List ℕ)} → Shuffled l m → Shuffled (map (row_of n) l) (map (row_of n) m)
  map_shuffled none = none
  map_shuffled (same h) = same (map_shuffled h)
  map_shuffled swap = swap
  map_shuffled (then h k) = then (map_shuffled h) (map_shuffled k)

  pub rows_moved : (l m : List (List ℕ)) → Rowly n l → Rowly n m → Shuffled l m → Reordered n (joined l) (joined m)
  rows_moved l m h k s =
      whole_reordering n (joined l) (joined m) (joined_whole l h) (joined_whole m k) (rw (joined_spells l h, joined_spells m k) (map_shuffled s))

-- table 641 of the proof table: its three rows, and the first moved behind the others
abbrev row : ℕ → ℕ → ℕ → ℕ → ℕ → List ℕ
row a b c d e = word_bytes a ++ word_bytes b ++ word_bytes c ++ word_bytes d ++ word_bytes e

abbrev pub first_last : List (List ℕ)
first_last = row 900001 7001 0 2 1601 ∷ row 900001 0 0 1 1600 ∷ row 103136 0 0 1 1500 ∷ []

abbrev pub first_moved : List (List ℕ)
first_moved = row 103136 0 0 1 1500 ∷ row 900001 7001 0 2 1601 ∷ row 900001 0 0 1 1600 ∷ []

pub moved_641 : Reordered T641 (joined first_last) (joined first_moved)
unfolding word_bytes
moved_641 = rows_moved T641 first_last first_moved (refl, (refl, (refl, tt))) (refl, (refl, (refl, tt))) (then (same swap) swap)
