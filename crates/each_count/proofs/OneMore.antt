-- The answers that stand in the list, and one more behind them. Assumes nothing.
use Prim.Native.Nat.{ℕ, suc, ◌+◌, ◌*◌, ◌≤◌}
use mathlib.Core.List.{List, ◌++◌}
use mathlib.Core.Path.{◌≡◌, refl, ap, ◌∙◌}
use native.Mathlib.Omega.{arith}
use native.Mathlib.Nat.{suc-mul}
use lib.ListN.{length, drop, length-append, length-drop}
use lib.Seq.{sets, sets-eq, take_at, drop-append-add, drop-drop}
use Rattle.guideline.specs.declared.answer.Answer.{Answer}
use Rattle.guideline.specs.declared.entries.Entry.{Entry}
use Rattle.guideline.specs.Entries.{with_count}
use Rattle.guideline.specs.Rows.{Tables}
use Rattle.guideline.specs.Check.{numbers_of, check}
use Rattle.guideline.specs.Counts.{in_turn, single, on_unless_given, answers_from}
use Rattle.guideline.proofs.CountLaws.{next_in_turn, length_in_turn}

-- the numbers of the check's answer for the entry with a count
pub answered : (t : Tables) (e : Entry) (count : ℕ) {f : Entry} {a : Answer} {l : List ℕ} → f ≡ with_count count e → a ≡ check t f → l ≡ numbers_of a → l ≡ single t e count
answered t e count p q r = r ∙ ap numbers_of (q ∙ ap (check t) p)

-- what is stored behind the front takes the place of as many numbers
stored : (front old vs : List ℕ) (n w : ℕ) → length front ≡ n → length vs ≡ w → n + w ≤ length old → sets (front ++ drop n old) n vs ≡ (front ++ vs) ++ drop (n + w) old
stored front old vs n w f v h =
    let l = front ++ drop n old in
    let long : length l ≡ length old = rw (length-append front (drop n old), length-drop n old, f) (omega arith) in
    let behind : drop (n + length vs) l ≡ drop (n + w) old = rw (← f, v, drop-append-add front (drop (length front) old) w, drop-drop w (length front) old) refl in
    sets-eq vs l n (omega (arith, long)) ∙ rw (take_at front (drop n old) n f, behind) refl

module _ (f : ℕ → List ℕ) (w : ℕ) (long : (i : ℕ) → length (f i) ≡ w) (old : List ℕ) where
  pub one_more : (list new : List ℕ) (i next : ℕ) → next ≡ i + 1 → next * w ≤ length old → list ≡ in_turn f i ++ drop (i * w) old → new ≡ sets list (i * w) (f i) → new ≡ in_turn f next ++ drop (next * w) old
  one_more list new i next n h p q =
      let s : next ≡ suc i = omega arith in
      let m : next * w ≡ i * w + w = ap (λ (k : ℕ). k * w) s ∙ suc-mul i w in
      q ∙ ap (λ (l : List ℕ). sets l (i * w) (f i)) p ∙ stored (in_turn f i) old (f i) (i * w) w (length_in_turn f w long i) (long i) (omega arith) ∙ rw (m, s, next_in_turn f i) refl

-- the single checks of what a range asks are its answers
pub all_answered : (t : Tables) (e : Entry) (first n : ℕ) (rest : List ℕ) {asked : Entry} {list : List ℕ} → asked ≡ on_unless_given e → list ≡ in_turn (λ k. single t asked (first + k)) n ++ rest → list ≡ answers_from t e first n ++ rest
all_answered t e first n rest p q = q ∙ ap (λ (f : Entry). in_turn (λ k. single t f (first + k)) n ++ rest) p
