-- Runs of stores: one after the other, and what they leave at each place. Assumes nothing.
use Prim.Native.Nat.{ℕ, zero, suc, ◌+◌, ◌<◌, ◌≤◌}
use mathlib.Core.List.{List, [], ◌∷◌, ◌++◌}
use mathlib.Core.Path.{◌≡◌, refl, sym, ap, ◌∙◌}
use native.Mathlib.Omega.{arith}
use Rattle.std.proofs.Common.{append_assoc}
use Rattle.std.proofs.lemmas.List.{drop-drop}
use native.Mathlib.Nat.{add-zero, not-suc-le-zero}
use lib.ListN.{length, set, get_or, length-set}
use lib.Seq.{sets, get_or-set_same, get_or-set_other}
use borrow.Rule.Slice.PartMut.{put_mid}
use Rattle.std.proofs.lemmas.List.Edits.{sets-eq}

pub sets_append : (l : List ℕ) (i : ℕ) (vs ws : List ℕ) → sets l i (vs ++ ws) ≡ sets (sets l i vs) (i + length vs) ws
sets_append l i [] ws = ap (λ (m : ℕ). sets l m ws) (sym (add-zero i))
sets_append l i (a ∷ vs) ws = sets_append (set l i a) (suc i) vs ws ∙ ap (λ (m : ℕ). sets (sets (set l i a) (suc i) vs) m ws) (omega arith)

pub before_run : (l : List ℕ) (i : ℕ) (vs : List ℕ) (j : ℕ) → j < i → get_or (sets l i vs) j 0 ≡ get_or l j 0
before_run l i [] j h = refl
before_run l i (a ∷ vs) j h = before_run (set l i a) (suc i) vs j (omega arith) ∙ get_or-set_other l i j a 0 (λ e. omega arith)

pub behind_run : (l : List ℕ) (i : ℕ) (vs : List ℕ) (j : ℕ) → i + length vs ≤ j → get_or (sets l i vs) j 0 ≡ get_or l j 0
behind_run l i [] j h = refl
behind_run l i (a ∷ vs) j h = behind_run (set l i a) (suc i) vs j (omega arith) ∙ get_or-set_other l i j a 0 (λ e. omega arith)

pub in_run : (l : List ℕ) (i : ℕ) (vs : List ℕ) (k : ℕ) → k < length vs → i + length vs ≤ length l → get_or (sets l i vs) (i + k) 0 ≡ get_or vs k 0
in_run l i [] k h j = absurd (not-suc-le-zero h)
in_run l i (a ∷ vs) zero h j =
    rw (add-zero i) (before_run (set l i a) (suc i) vs i (omega arith) ∙ get_or-set_same l i a 0 (omega arith))
in_run l i (a ∷ vs) (suc k) h j =
    let e : i + suc k ≡ suc i + k = omega arith in
    rw e (in_run (set l i a) (suc i) vs k (omega arith) (rw length-set (omega arith)))

-- a run copied into its place is stored byte by byte
pub put_mid_sets : (l : List ℕ) (at k : ℕ) (ys vs : List ℕ) → ys ≡ vs → k ≡ length vs → at + k ≤ length l → put_mid at k l ys ≡ sets l at vs
put_mid_sets l at k ys vs e f h = rw (e, f, sets-eq vs l at (omega arith), drop-drop, append_assoc)
