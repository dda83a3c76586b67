-- The filters of a frequency are what step 9 asks of a row.
use mathlib.Core.Path.{◌≡◌, refl}
use mathlib.Core.Bool.{◌||◌}
use Rattle.guideline.specs.declared.entries.Prescription.{Prescription}
use Rattle.guideline.specs.Steps.{same_count, same_unit, twin_unit, exact, twin}
use Rattle.filter.specs.declared.Filter.TheVariants.{Exact, Twin, UnitOrTwin, Count}
use Rattle.filter.specs.Filters.{frequency_of, filter643}

module _ (p : Prescription) where
  pub exact_filter : exact p ≡ filter643 (Exact (frequency_of p))
  unfolding exact same_count same_unit
  exact_filter = refl

  pub twin_filter : twin p ≡ filter643 (Twin (frequency_of p))
  unfolding twin same_count twin_unit
  twin_filter = refl

  pub unit_filter : (λ r. same_unit p r || twin_unit p r) ≡ filter643 (UnitOrTwin (frequency_of p))
  unfolding same_unit twin_unit
  unit_filter = refl

  pub count_filter : same_count p ≡ filter643 (Count (frequency_of p))
  unfolding same_count
  count_filter = refl
