-- The rows that are left: what the first place tells of them, and what a filter more leaves of them. Assumes nothing.
use Prim.Native.Nat.{ℕ}
use mathlib.Core.Path.{◌≡◌, sym, ◌∙◌, ap, fun_ext}
use mathlib.Core.Bool.{Bool, false, ◌&&◌, and_assoc}
use mathlib.Core.List.{List}
use native.Mathlib.Omega.{arith}
use Rattle.std.specs.Prelude.{Option, Some, is_some}
use Rattle.guideline.specs.declared.rows.Row643.{Row643}
use Rattle.guideline.specs.declared.rows.TableName.TheVariants.{T643}
use Rattle.guideline.specs.declared.view.View.{View}
use Rattle.guideline.specs.Table.{some, among}
use Rattle.guideline.specs.Rows.{keyed, read_row}
use Rattle.cells.specs.Lents.{shown, row_at}
use Rattle.cells.specs.Views.{narrowed}
use Rattle.keys.proofs.Answers.{narrowed_answers}
use Rattle.keys.specs.Hits.{First}
use Rattle.tables.proofs.Asked.{any_first}
use Rattle.filter.specs.declared.Filter.{Filter}
use Rattle.filter.specs.Filters.{filter643}
use Rattle.sieve.specs.declared.left.Left.{Left}
use Rattle.sieve.specs.declared.settled.Settled.{Settled}
use Rattle.sieve.specs.Settled.{settled643}
use Rattle.sieve.specs.Left.{kept_in, kept, passing}

-- is there a row with a property more?
pub first_tells : (s : Left) (p : Row643 → Bool) (r : Option ℕ) → First (passing s p) s.rows.view.rows r → some (kept s p) ≡ is_some r
unfolding kept_in
first_tells s p r k = sym (any_first s.rows (λ x. settled643 s.settled x && p x) r k)

-- the rows that are kept by a filter more are those of the rows before that pass it
module _ (s : Left) (more : Settled) (q : Filter) (joins : (r : Row643) → settled643 more r ≡ (settled643 s.settled r && filter643 q r)) where
  abbrev l : List ℕ
  l = s.rows.bytes.now

  abbrev v : View
  v = s.rows.view

  abbrev category : ℕ
  category = s.rows.key

  pub joined_kept : kept_in l v category more ≡ among (filter643 q) (kept s)
  unfolding kept_in
  joined_kept =
      fun_ext (λ (p : Row643 → Bool). ap (shown T643 l v) (fun_ext (λ r. ap (λ (b : Bool). keyed T643 category r && b) (ap (λ (b : Bool). b && p r) (joins r) ∙ and_assoc (settled643 s.settled r) (filter643 q r) (p r)))))

  -- also where they are seen from the first row on that passes it
  from_first : {i : ℕ} → First (passing s (filter643 q)) v.rows (Some i) → kept_in l (narrowed v i v.rows) category more ≡ kept_in l v category more
  unfolding kept_in
  from_first {i} k =
      fun_ext (λ (p : Row643 → Bool). narrowed_answers (read_row T643) l v (λ r. keyed T643 category r && (settled643 more r && p r)) i v.rows (omega (arith, k.0)) (omega arith) (λ j below. without (row_at T643 l v j) p (k.1 j below)) (λ j above below. absurd (let z : ⊥ = omega arith in z)))
    where
      without : (r : Row643) (p : Row643 → Bool) → (keyed T643 category r && (settled643 s.settled r && filter643 q r)) ≡ false → (keyed T643 category r && (settled643 more r && p r)) ≡ false
      without r p none =
          sym (and_assoc (keyed T643 category r) (settled643 more r) (p r))
          ∙ ap (λ (b : Bool). b && p r) (ap (λ (b : Bool). keyed T643 category r && b) (joins r) ∙ none)

  pub narrowed_kept : {i : ℕ} (w : Left) → First (passing s (filter643 q)) v.rows (Some i) → w.rows.bytes.now ≡ l → w.rows.view ≡ narrowed v i v.rows → w.rows.key ≡ category → w.settled ≡ more → kept w ≡ among (filter643 q) (kept s)
  narrowed_kept w k bytes view key settled = rw (bytes, view, key, settled) (from_first k ∙ joined_kept)
