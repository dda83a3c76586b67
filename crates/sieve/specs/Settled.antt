-- What steps 8 to 10 have settled.
use Rattle.std.specs.Prelude.{ℕ, Bool, ◌&&◌}
use Rattle.guideline.specs.Types.{Value}
use Rattle.guideline.specs.Types.{Blank, Given}
use Rattle.guideline.specs.declared.rows.Row643.{Row643}
use Rattle.filter.specs.declared.Measure.{Measure}
use Rattle.filter.specs.declared.Measure.TheVariants.{Weight, Surface}
use Rattle.filter.specs.declared.Filter.{Filter}
use Rattle.filter.specs.declared.Filter.TheVariants.{Every, Age, FitsMeasure}
use Rattle.filter.specs.Filters.{filter643}
use Rattle.sieve.specs.declared.settled.Settled.{Settled}

-- nothing yet; and then one filter more
abbrev pub nothing_settled : Settled
nothing_settled = record { age = Blank; frequency = Every; weight = Blank; surface = Blank }

abbrev pub and_age : Settled → ℕ → Settled
and_age s months =
    record { age = Given months; frequency = s.frequency; weight = s.weight; surface = s.surface }

abbrev pub and_frequency : Settled → Filter → Settled
and_frequency s f =
    record { age = s.age; frequency = f; weight = s.weight; surface = s.surface }

abbrev pub and_measure : Settled → Measure → ℕ → Settled
and_measure s Weight x =
    record { age = s.age; frequency = s.frequency; weight = Given x; surface = s.surface }
and_measure s Surface x =
    record { age = s.age; frequency = s.frequency; weight = s.weight; surface = Given x }

-- what is settled of the measure, and of the other
abbrev pub own_value : Measure → Settled → Value
own_value Weight s = s.weight
own_value Surface s = s.surface

abbrev pub other_value : Measure → Settled → Value
other_value Weight s = s.surface
other_value Surface s = s.weight

-- the filter that a value stands for: nothing is settled yet where it is blank
abbrev pub value_filter : (ℕ → Filter) → Value → Filter
value_filter f Blank = Every
value_filter f (Given x) = f x

abbrev pub age_filter : Value → Filter
age_filter = value_filter Age

abbrev pub measure_filter : Measure → Value → Filter
measure_filter m = value_filter (FitsMeasure m)

-- a row passes all that is settled
unfoldable pub settled643 : Settled → Row643 → Bool
settled643 s r =
    filter643 (age_filter s.age) r
    && (filter643 s.frequency r
    && (filter643 (measure_filter Weight s.weight) r && filter643 (measure_filter Surface s.surface) r))
