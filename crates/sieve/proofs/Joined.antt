-- What is settled with a filter more: a row passes it if it passes what was settled before, and the filter. Assumes nothing.
use Prim.Native.Nat.{ℕ}
use mathlib.Core.Path.{◌≡◌, refl, sym, ◌∙◌, ap}
use mathlib.Core.Bool.{Bool, true, false, ◌&&◌, and-true, and_comm}
use Rattle.guideline.specs.Types.{Blank}
use Rattle.guideline.specs.declared.rows.Row643.{Row643}
use Rattle.filter.specs.declared.Measure.{Measure}
use Rattle.filter.specs.declared.Measure.TheVariants.{Weight, Surface}
use Rattle.filter.specs.declared.Filter.{Filter}
use Rattle.filter.specs.declared.Filter.TheVariants.{Every, Age, FitsMeasure}
use Rattle.filter.specs.Filters.{filter643}
use Rattle.sieve.specs.declared.settled.Settled.{Settled}
use Rattle.sieve.specs.Settled.{and_age, and_frequency, and_measure, own_value, other_value, age_filter, measure_filter, settled643}

-- the test that was not there yet, at its place among the four
second : (a q b : Bool) → (a && (q && b)) ≡ ((a && b) && q)
second true q b = and_comm q b
second false q b = refl

third : (a b q c : Bool) → (a && (b && (q && c))) ≡ ((a && (b && c)) && q)
third true b q c = second b q c
third false b q c = refl

fourth : (a b c q : Bool) → (a && (b && (c && q))) ≡ ((a && (b && (c && true))) && q)
fourth a b c q =
    ap (λ (x : Bool). a && (b && x)) (and_comm c q)
    ∙ third a b q c
    ∙ ap (λ (x : Bool). (a && (b && x)) && q) (sym (and-true c))

module _ (s : Settled) (r : Row643) where
  abbrev aged : Bool
  aged = filter643 (age_filter s.age) r

  abbrev as_often : Bool
  as_often = filter643 s.frequency r

  abbrev weighed : Bool
  weighed = filter643 (measure_filter Weight s.weight) r

  abbrev of_surface : Bool
  of_surface = filter643 (measure_filter Surface s.surface) r

  pub age_joins : (x : ℕ) → s.age ≡ Blank → settled643 (and_age s x) r ≡ (settled643 s r && filter643 (Age x) r)
  unfolding settled643
  age_joins x e = rw e (and_comm (filter643 (Age x) r) (as_often && (weighed && of_surface)))

  pub frequency_joins : (q : Filter) → s.frequency ≡ Every → settled643 (and_frequency s q) r ≡ (settled643 s r && filter643 q r)
  unfolding settled643
  frequency_joins q e = rw e (second aged (filter643 q r) (weighed && of_surface))

  pub weight_joins : (x : ℕ) → s.weight ≡ Blank → settled643 (and_measure s Weight x) r ≡ (settled643 s r && filter643 (FitsMeasure Weight x) r)
  unfolding settled643
  weight_joins x e = rw e (third aged as_often (filter643 (FitsMeasure Weight x) r) of_surface)

  pub surface_joins : (x : ℕ) → s.surface ≡ Blank → settled643 (and_measure s Surface x) r ≡ (settled643 s r && filter643 (FitsMeasure Surface x) r)
  unfolding settled643
  surface_joins x e = rw e (fourth aged as_often weighed (filter643 (FitsMeasure Surface x) r))

-- either measure
pub measure_joins : (m : Measure) (s : Settled) (x : ℕ) → own_value m s ≡ Blank → (r : Row643) → settled643 (and_measure s m x) r ≡ (settled643 s r && filter643 (FitsMeasure m x) r)
measure_joins Weight s x e r = weight_joins s r x e
measure_joins Surface s x e r = surface_joins s r x e

pub other_stays : (m : Measure) (s : Settled) (x : ℕ) → other_value m (and_measure s m x) ≡ other_value m s
other_stays Weight s x = refl
other_stays Surface s x = refl
