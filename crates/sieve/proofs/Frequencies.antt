-- Step 9 by the tests of the entered frequency: which of its two filters the rows are kept by, and the signal. Assumes nothing.
use mathlib.Core.Path.{◌≡◌, ◌∙◌, ap}
use mathlib.Core.Bool.{Bool, true, false}
use Rattle.guideline.specs.declared.entries.Prescription.{Prescription}
use Rattle.guideline.specs.declared.refusals.Signal.{Signal}
use Rattle.guideline.specs.declared.rows.Row643.{Row643}
use Rattle.guideline.specs.Table.{Table, some}
use Rattle.guideline.specs.Forms.{when}
use Rattle.guideline.specs.Steps.{signal}
use Rattle.filter.specs.declared.Frequency.{Frequency}
use Rattle.filter.specs.declared.Filter.TheVariants.{Exact, Twin, UnitOrTwin, Count}
use Rattle.filter.specs.Filters.{filter643, frequency_of}
use Rattle.filter.proofs.Frequencies.{unit_filter, count_filter}
use Rattle.sieve.specs.Matched.{frequency_kept}

-- which of step 9's two filters the rows are kept by
module _ (f : Frequency) (t : Table Row643) where
  pub kept_exact : some (t (filter643 (Exact f))) ≡ true → Exact f ≡ frequency_kept f t
  kept_exact h = rw h

  pub kept_twin : some (t (filter643 (Exact f))) ≡ false → Twin f ≡ frequency_kept f t
  kept_twin h = rw h

-- whether there are rows with the entered frequency, or with a part of it
module _ (p : Prescription) (t : Table Row643) where
  abbrev pub has_exact : Bool
  has_exact = some (t (filter643 (Exact (frequency_of p))))

  abbrev pub has_twin : Bool
  has_twin = some (t (filter643 (Twin (frequency_of p))))

  abbrev pub has_unit : Bool
  has_unit = some (t (filter643 (UnitOrTwin (frequency_of p))))

  abbrev pub has_count : Bool
  has_count = some (t (filter643 (Count (frequency_of p))))

  pub count_differs : has_unit ≡ true → Signal.OnlyCount ≡ signal p t
  unfolding signal when
  count_differs h = rw (ap (λ (q : Row643 → Bool). some (t q)) (unit_filter p) ∙ h)

  pub unit_differs : has_unit ≡ false → has_count ≡ true → Signal.OnlyUnit ≡ signal p t
  unfolding signal when
  unit_differs h k =
      rw (ap (λ (q : Row643 → Bool). some (t q)) (unit_filter p) ∙ h, ap (λ (q : Row643 → Bool). some (t q)) (count_filter p) ∙ k)

  pub both_differ : has_unit ≡ false → has_count ≡ false → Signal.Both ≡ signal p t
  unfolding signal when
  both_differ h k =
      rw (ap (λ (q : Row643 → Bool). some (t q)) (unit_filter p) ∙ h, ap (λ (q : Row643 → Bool). some (t q)) (count_filter p) ∙ k)
