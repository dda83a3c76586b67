-- The list after a range check (P2), place by place: the answer of each count, and behind the last all as it was. Assumes nothing.
use Prim.Native.Nat.{ℕ, zero, suc, ◌+◌, ◌*◌, ◌≤◌, ◌<◌}
use mathlib.Core.Bool.{Bool, true, false, cond}
use mathlib.Core.List.{List, ◌++◌, append_assoc}
use mathlib.Core.Path.{◌≡◌, refl, sym, ◌∙◌}
use native.Mathlib.Omega.{arith}
use native.Mathlib.Nat.{zero-mul, suc-mul}
use borrow.Author.Tests.{ltb-true, ltb-false}
use lib.Dec.{ltb}
use lib.ListN.{length, take, drop, length-append}
use lib.Seq.{take_at, drop_at}
use Rattle.guideline.specs.Types.{Entry, AllCounts, RangeRefused, NoRange, NoRoom}
use Rattle.guideline.specs.Rows.{Tables}
use Rattle.guideline.specs.Check.{answer_length}
use Rattle.guideline.specs.Counts.{in_turn, answer_for, answers_from, counts_in, most_counts, numbers_at, counted}

-- pieces that are all w long
module _ (f : ℕ → List ℕ) (w : ℕ) (long : (i : ℕ) → length (f i) ≡ w) where
  pub length_in_turn : (n : ℕ) → length (in_turn f n) ≡ n * w
  unfolding in_turn
  length_in_turn zero = sym (zero-mul w)
  length_in_turn (suc n) = length-append (in_turn f n) (f n) ∙ rw (length_in_turn n, long n) (sym (suc-mul n w))

  pub behind_in_turn : (n : ℕ) (rest : List ℕ) → drop (n * w) (in_turn f n ++ rest) ≡ rest
  behind_in_turn n rest = drop_at (in_turn f n) rest (n * w) (length_in_turn n)

  -- piece i, whatever stands behind the last
  pub piece_in_turn : (n i : ℕ) (rest : List ℕ) → i < n → take w (drop (i * w) (in_turn f n ++ rest)) ≡ f i
  unfolding in_turn
  piece_in_turn zero i rest h = absurd (let y : ⊥ = omega arith in y)
  piece_in_turn (suc n) i rest h = rw (append_assoc (in_turn f n) (f n) rest) (go (λ b. piece_in_turn n i (f n ++ rest) b) (ltb i n) refl)
    where
      go : (i < n → take w (drop (i * w) (in_turn f n ++ (f n ++ rest))) ≡ f i) → (b : Bool) → ltb i n ≡ b → take w (drop (i * w) (in_turn f n ++ (f n ++ rest))) ≡ f i
      go before true b = before (ltb-true i n b)
      go before false b =
          let k : i ≡ n = omega (arith, ltb-false i n b) in
          rw (k, behind_in_turn n (f n ++ rest)) (take_at (f n) rest w (long n))

-- one piece more
pub next_in_turn : (f : ℕ → List ℕ) (n : ℕ) → in_turn f (suc n) ≡ in_turn f n ++ f n
unfolding in_turn
next_in_turn f n = refl

module _ (t : Tables) (e : Entry) (first : ℕ) where
  abbrev each : ℕ → List ℕ
  each i = answer_for t e (first + i)

  -- place i holds the check's answer for count first + i, whatever stands behind the last
  pub place_answered : (n i : ℕ) (rest : List ℕ) → i < n → numbers_at i (answers_from t e first n ++ rest) ≡ answer_for t e (first + i)
  place_answered n i rest h = piece_in_turn each answer_length (λ i. refl) n i rest h

  pub rest_behind : (n : ℕ) (rest : List ℕ) → drop (n * answer_length) (answers_from t e first n ++ rest) ≡ rest
  rest_behind n rest = behind_in_turn each answer_length (λ i. refl) n rest

-- a range that is not refused has from 1 to 16 counts, as many as there are places or fewer
pub listed_fits : (first last places n : ℕ) → counted first last places ≡ AllCounts n → (1 ≤ n) × (n ≤ most_counts) × (n ≤ places) × (first + n ≡ suc last)
unfolding counted
listed_fits first last places n = go (ltb last first) (ltb most_counts (counts_in first last)) (ltb places (counts_in first last)) (ltb-false last first) (ltb-false most_counts (counts_in first last)) (ltb-false places (counts_in first last))
  where
    go : (above over short : Bool) → (above ≡ false → first ≤ last) → (over ≡ false → counts_in first last ≤ most_counts) → (short ≡ false → counts_in first last ≤ places) → cond above (RangeRefused NoRange) (cond over (RangeRefused NoRange) (cond short (RangeRefused NoRoom) (AllCounts (counts_in first last)))) ≡ AllCounts n → (1 ≤ n) × (n ≤ most_counts) × (n ≤ places) × (first + n ≡ suc last)
    go true over short f g k h = absurd (let z : ◌≡◌ {A = ℕ} 0 1 = cc in let y : ⊥ = omega arith in y)
    go false true short f g k h = absurd (let z : ◌≡◌ {A = ℕ} 0 1 = cc in let y : ⊥ = omega arith in y)
    go false false true f g k h = absurd (let z : ◌≡◌ {A = ℕ} 0 1 = cc in let y : ⊥ = omega arith in y)
    go false false false f g k h =
        let e : counts_in first last ≡ n = cc in
        (omega (arith, f refl), omega (arith, g refl), omega (arith, k refl), omega (arith, f refl))
