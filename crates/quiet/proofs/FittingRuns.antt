-- What the plan of 3.4.2.1 comes to, by what is settled then. Assumes nothing.
use mathlib.Core.Path.{◌≡◌, refl, sym, ◌∙◌, ap}
use Prim.Native.Nat.{ℕ}
use native.Mathlib.Omega.{arith}
use Rattle.std.specs.Prelude.{Result, Ok, Err}
use Rattle.guideline.specs.declared.entries.Datum.{Datum}
use Rattle.guideline.specs.Types.{Value, Blank, Given}
use Rattle.guideline.specs.declared.refusals.Question.{Question}
use Rattle.guideline.specs.declared.refusals.Refusal.TheVariants.{Asks}
use Rattle.guideline.specs.declared.rows.Row643.{Row643}
use Rattle.guideline.specs.Values.{fits}
use Rattle.guideline.specs.Ask.{asks_for, Done, Outcome, Chosen, Refused, run}
use Rattle.guideline.specs.Table.{Table, some, among}
use Rattle.guideline.specs.declared.refusals.Question.TheVariants.{WeightPerDay, SurfacePerDay}
use Rattle.guideline.specs.Quiet.{of_day, fitting, fitting_weight, fitting_surface}
use Rattle.filter.specs.declared.Measure.{Measure}
use Rattle.filter.specs.declared.Filter.TheVariants.{Every, Matters, FitsMeasure, PerDay}
use Rattle.filter.specs.declared.Measure.TheVariants.{Weight, Surface}
use Rattle.filter.specs.Filters.{filter643, measure_bounds}
use Rattle.sieve.specs.Needed.{needed}
use Rattle.sieve.specs.declared.left.Left.{Left}
use Rattle.sieve.specs.Left.{kept_in, kept}
use Rattle.sieve.specs.declared.settled.Settled.{Settled}
use Rattle.sieve.specs.Settled.{own_value, other_value, and_frequency, and_measure}
use Rattle.sieve.proofs.Joined.{frequency_joins, measure_joins, other_stays}
use Rattle.sieve.proofs.Kept.{joined_kept}
use Rattle.sieve.proofs.Needing.{on_need, run_needed}
use Rattle.quiet.specs.Fitted.{fitted}

-- what is settled of the other measure stays
pub other_fitted : (s : Settled) (m : Measure) (n : Result Value Question) {w : Settled} → fitted s m n ≡ Ok w → other_value m w ≡ other_value m s
other_fitted s m (Ok Blank) {w} e = let same : s ≡ w = cc in rw (sym same)
other_fitted s m (Ok (Given x)) {w} e =
    let same : and_measure s m x ≡ w = cc in rw (sym same) (other_stays m s x)
other_fitted s m (Err q) e = absurd (let z : ◌≡◌ {A = ℕ} 0 1 = cc in omega arith)

-- the same rows, by what is settled
abbrev pub by : Left → Settled → Left
by s w = record { rows = s.rows; settled = w }

-- the rows that are left, or the question
abbrev pub left : Left → Result Settled Question → Outcome (Unit {0}) (Table Row643)
left s (Ok w) = Chosen (kept (by s w))
left s (Err question) = Refused (Asks question) tt

module _ (d : Datum → Value) (s : Left) (w : Settled) (m : Measure) (question : Question) where
  abbrev that_fit : ℕ → Table Row643
  that_fit x = among (λ r. fits (measure_bounds m r) x) (kept (by s w))

  by_need : own_value m w ≡ Blank → (n : Result Value Question) → on_need d question (kept (by s w)) (λ x. Done (that_fit x)) n ≡ left s (fitted w m n)
  by_need e (Ok Blank) = refl
  by_need e (Ok (Given x)) =
      ap Chosen (sym (joined_kept (by s w) (and_measure w m x) (FitsMeasure m x) (measure_joins m w x e)))
  by_need e (Err q) = refl

  pub run_fitting : {x : Value} {n : Result Settled Question} → own_value m w ≡ Blank → d (asks_for question) ≡ x → n ≡ fitted w m (needed question (some (kept (by s w) (filter643 (Matters m)))) x) → run d (fitting question (measure_bounds m) (kept (by s w))) ≡ left s n
  unfolding fitting
  run_fitting {x} e asked h =
      run_needed d question (kept (by s w)) (λ x. Done (that_fit x)) (some (kept (by s w) (filter643 (Matters m)))) x asked
      ∙ by_need e (needed question (some (kept (by s w) (filter643 (Matters m)))) x)
      ∙ ap (left s) (sym h)

-- the two steps of 3.4.2.1, over the rows per day
module _ (d : Datum → Value) (s : Left) {f : Settled} (e : f ≡ and_frequency s.settled PerDay) where
  per_day_kept : s.settled.frequency ≡ Every → kept (by s f) ≡ among of_day (kept s)
  per_day_kept none =
      ap (kept_in s.rows.bytes.now s.rows.view s.rows.key) e
      ∙ joined_kept s (and_frequency s.settled PerDay) PerDay (λ r. frequency_joins s.settled r PerDay none)

  pub run_weight : {n : Result Settled Question} → s.settled.frequency ≡ Every → s.settled.weight ≡ Blank → n ≡ fitted f Weight (needed WeightPerDay (some (kept (by s f) (filter643 (Matters Weight)))) (d (asks_for WeightPerDay))) → run d (fitting_weight (among of_day (kept s))) ≡ left s n
  unfolding fitting_weight
  run_weight none blank h =
      ap (λ (t : Table Row643). run d (fitting_weight t)) (sym (per_day_kept none))
      ∙ run_fitting d s f Weight WeightPerDay (ap (λ (w : Settled). w.weight) e ∙ blank) refl h

  pub run_surface : (m : Result Value Question) {w : Settled} {n : Result Settled Question} → s.settled.surface ≡ Blank → Ok w ≡ fitted f Weight m → n ≡ fitted w Surface (needed SurfacePerDay (some (kept (by s w) (filter643 (Matters Surface)))) (d (asks_for SurfacePerDay))) → run d (fitting_surface (kept (by s w))) ≡ left s n
  unfolding fitting_surface
  run_surface m {w} blank before h =
      run_fitting d s w Surface SurfacePerDay (other_fitted f Weight m (sym before) ∙ ap (λ (w : Settled). w.surface) e ∙ blank) refl h
