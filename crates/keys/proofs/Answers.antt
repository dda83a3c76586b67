-- Asked about rows with its key, a stretch answers as the view does. Assumes nothing.
use Prim.Native.Nat.{ℕ, zero, suc, ◌+◌, ◌-◌, ◌≤◌, ◌<◌}
use mathlib.Core.Path.{◌≡◌, refl, sym, ◌∙◌, ap, ap₂, fun_ext}
use mathlib.Core.Bool.{Bool, false, ◌&&◌}
use mathlib.Core.List.{List, ◌∷◌}
use native.Mathlib.Nat.{add-zero, add-suc}
use native.Mathlib.Decide.{le_ind}
use native.Mathlib.Omega.{arith}
use borrow.Author.Tests.{ne_eqb}
use lib.Dec.{eqb}
use lib.ListN.{length}
use Rattle.guideline.specs.Table.{keep, hits, among}
use Rattle.guideline.specs.declared.view.View.{View}
use Rattle.guideline.specs.Bytes.{cell, listed}
use Rattle.cells.specs.declared.row.TableRow.{Ghosts}
use Rattle.cells.specs.Views.{Fits, narrowed}
use Rattle.cells.specs.Lents.{shown_by}
use Rattle.cells.proofs.Views.{narrowed_read, narrowed_fits}
use Rattle.keys.specs.Keys.{Stretch}

-- rows without a property do not tell whether there are more of them
module _ {A : Type 0} (p : A → Bool) where
  pub keep_below : (f : ℕ → A) (m n : ℕ) → m ≤ n → ((i : ℕ) → m ≤ i → i < n → p (f i) ≡ false) → keep p (listed n f) ≡ keep p (listed m f)
  keep_below f m =
      le_ind (λ n. ((i : ℕ) → m ≤ i → i < n → p (f i) ≡ false) → keep p (listed n f) ≡ keep p (listed m f)) (λ h. refl) (λ n le rec h. rw (h n le (omega arith)) (rec (λ i above below. h i above (omega arith))))

  keep_from : (f : ℕ → A) (a n : ℕ) → ((i : ℕ) → i < a → p (f i) ≡ false) → keep p (listed (a + n) f) ≡ keep p (listed n (λ i. f (a + i)))
  keep_from f a zero h = rw (add-zero a) (keep_below f 0 a (omega arith) (λ i above. h i))
  keep_from f a (suc n) h = rw (add-suc a n, keep_from f a n h)

listed_same : {A : Type 0} (f g : ℕ → A) (n : ℕ) → ((i : ℕ) → i < n → f i ≡ g i) → listed n f ≡ listed n g
listed_same f g zero h = refl
listed_same f g (suc n) h = ap₂ ◌∷◌ (h n (omega arith)) (listed_same f g n (λ i below. h i (omega arith)))

-- a narrower view, asked about a property that no row has that it leaves out, answers as the view does
module _ {A : Type 0} (read : (ℕ → ℕ) → A) (l : List ℕ) (v : View) (p : A → Bool) where
  abbrev row : ℕ → A
  row i = read (cell l v i)

  pub narrowed_answers : (a b : ℕ) → a ≤ b → b ≤ v.rows → ((i : ℕ) → i < a → p (row i) ≡ false) → ((i : ℕ) → b ≤ i → i < v.rows → p (row i) ≡ false) → shown_by read l (narrowed v a b) p ≡ shown_by read l v p
  unfolding shown_by
  narrowed_answers a b order most before after =
      ap hits
      (ap (keep p) (listed_same (λ i. read (cell l (narrowed v a b) i)) (λ i. row (a + i)) (b - a) (λ i below. ap read (fun_ext (λ j. narrowed_read l v a b i j))))
      ∙ sym (keep_from p row a (b - a) before)
      ∙ ap (λ (m : ℕ). keep p (listed m row)) (let up_to : a + (b - a) ≡ b = omega arith in up_to)
      ∙ sym (keep_below p row b v.rows most after))

module _ {k key : ℕ} {l : List ℕ} {v r : View} (s : Stretch l v k key r) where
  -- asked about a property that only rows with the key can have, the stretch answers as the view does
  pub stretch_answers : {A : Type 0} (read : (ℕ → ℕ) → A) (p : A → Bool) → ((f : ℕ → ℕ) → (f k ≡ key → ⊥) → p (read f) ≡ false) → shown_by read l r p ≡ shown_by read l v p
  stretch_answers read p other =
      ap (λ (x : View). shown_by read l x p) s.cut
      ∙ narrowed_answers read l v p s.from s.to s.order s.most (λ i below. other (cell l v i) (s.before i (omega arith) below)) (λ i above below. other (cell l v i) (s.after i above below))

  -- asked about rows with the key, it answers as the view does
  pub stretch_among : {A : Type 0} (R : Ghosts A) (reads_key : (f : ℕ → ℕ) → R.keyed key (R.read f) ≡ eqb (f k) key) → among (R.keyed key) (shown_by R.read l r) ≡ among (R.keyed key) (shown_by R.read l v)
  stretch_among {A} R reads_key =
      fun_ext (λ (p : A → Bool). stretch_answers R.read (λ x. R.keyed key x && p x) (λ f other. rw (reads_key f, ne_eqb (f k) key other)))

  pub stretch_fits : {w : ℕ} → Fits w v (length l) → Fits w r (length l)
  stretch_fits f = rw s.cut (narrowed_fits s.from s.to s.order s.most f)
