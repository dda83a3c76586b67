-- The steps that filter, told by whether there is a row that passes. Assumes nothing.
use mathlib.Core.Path.{◌≡◌, refl, sym, ◌∙◌, ap}
use mathlib.Core.Bool.{Bool, true, false, cond}
use Rattle.std.specs.Prelude.{Result}
use Rattle.guideline.specs.declared.bounds.Bounds.{Bounds}
use Rattle.guideline.specs.declared.context.Context.{Context}
use Rattle.guideline.specs.declared.entries.Datum.{Datum}
use Rattle.guideline.specs.declared.entries.Prescription.{Prescription}
use Rattle.guideline.specs.Types.{Value}
use Rattle.guideline.specs.declared.refusals.Ending.{Ending}
use Rattle.guideline.specs.declared.refusals.Ending.TheVariants.{Suppressed, NoFrequency}
use Rattle.guideline.specs.declared.refusals.Question.{Question}
use Rattle.guideline.specs.declared.refusals.Refusal.{Refusal}
use Rattle.guideline.specs.declared.refusals.Refusal.TheVariants.{Ends}
use Rattle.guideline.specs.declared.rows.Row643.{Row643}
use Rattle.guideline.specs.declared.rows.Row649.{Row649}
use Rattle.guideline.specs.Values.{fits, matters}
use Rattle.guideline.specs.Ask.{asks_for, Outcome, Chosen, Refused, run}
use Rattle.guideline.specs.Table.{Table, some, among}
use Rattle.guideline.specs.Forms.{when, refuse, narrow}
use Rattle.guideline.specs.Quiet.{suppresses}
use Rattle.guideline.specs.Steps.{signal, no_frequency, by_frequency, by_measure}
use Rattle.guideline.proofs.Run.{refused_here, chosen_then}
use Rattle.filter.specs.declared.Filter.{Filter}
use Rattle.filter.specs.declared.Filter.TheVariants.{Exact, Twin}
use Rattle.filter.specs.Filters.{filter643, frequency_of}
use Rattle.filter.proofs.Frequencies.{exact_filter, twin_filter}
use Rattle.sieve.proofs.Needing.{on_need, run_needed}
use Rattle.sieve.specs.Needed.{needed}
use Rattle.sieve.specs.Matched.{frequency_kept}
use Rattle.sieve.proofs.Frequencies.{has_exact, has_twin}

-- a filter that leaves no row is refused; else it goes on with what it leaves
module _ (p : Row643 → Bool) (t : Table Row643) (d : Datum → Value) (none : Ending) where
  pub narrow_none : some (t p) ≡ false → run d (narrow p none t) ≡ Refused (Ends none) tt
  unfolding narrow when refuse
  narrow_none h = rw h

  pub narrow_some : some (t p) ≡ true → run d (narrow p none t) ≡ Chosen (among p t)
  unfolding narrow when
  narrow_some h = rw h

-- step 9
module _ (limits : Table Row649) (p : Prescription) (c : Context) (t : Table Row643) (d : Datum → Value) where
  frequency_exact : has_exact p t ≡ true → run d (by_frequency limits p c t) ≡ Chosen (among (filter643 (Exact (frequency_of p))) t)
  unfolding by_frequency when
  frequency_exact h = rw (exact_filter p, h)

  frequency_twin : has_exact p t ≡ false → has_twin p t ≡ true → run d (by_frequency limits p c t) ≡ Chosen (among (filter643 (Twin (frequency_of p))) t)
  unfolding by_frequency when
  frequency_twin h k = rw (exact_filter p, twin_filter p, h, k)

  pub frequency_found : (q : Filter) → q ≡ frequency_kept (frequency_of p) t → some (t (filter643 q)) ≡ true → run d (by_frequency limits p c t) ≡ Chosen (among (filter643 q) t)
  frequency_found = go (has_exact p t) refl
    where
      go : (b : Bool) → has_exact p t ≡ b → (q : Filter) → q ≡ cond b (Exact (frequency_of p)) (Twin (frequency_of p)) → some (t (filter643 q)) ≡ true → run d (by_frequency limits p c t) ≡ Chosen (among (filter643 q) t)
      go true h q e hit = rw e (frequency_exact h)
      go false h q e hit = rw e (frequency_twin h (rw e at hit))

  pub frequency_none : has_exact p t ≡ false → has_twin p t ≡ false → run d (by_frequency limits p c t) ≡ run d (no_frequency limits p c t)
  unfolding by_frequency when
  frequency_none h k = rw (exact_filter p, twin_filter p, h, k)

  -- P4's two questions end step 9; else the signal does, suppressed or not
  pub signal_asked : {w : Refusal} → run d (suppresses limits p c t) ≡ Refused w tt → run d (no_frequency limits p c t) ≡ Refused w tt
  unfolding no_frequency
  signal_asked h = sym (refused_here (λ o. o) d (suppresses limits p c t) _ h)

  pub signal_suppressed : run d (suppresses limits p c t) ≡ Chosen true → run d (no_frequency limits p c t) ≡ Refused (Ends (Suppressed (signal p t))) tt
  unfolding no_frequency when refuse
  signal_suppressed h = sym (chosen_then (λ o. o) d (suppresses limits p c t) _ h)

  pub signal_stands : run d (suppresses limits p c t) ≡ Chosen false → run d (no_frequency limits p c t) ≡ Refused (Ends (NoFrequency (signal p t))) tt
  unfolding no_frequency when refuse
  signal_stands h = sym (chosen_then (λ o. o) d (suppresses limits p c t) _ h)

-- step 10
module _ (d : Datum → Value) (question : Question) (none : Ending) (bounds : Row643 → Bounds) (t : Table Row643) where
  abbrev pub when_needed : Result Value Question → Outcome (Unit {0}) (Table Row643)
  when_needed = on_need d question t (λ x. narrow (λ r. fits (bounds r) x) none t)

  pub run_measure : {x : Value} {n : Result Value Question} → d (asks_for question) ≡ x → n ≡ needed question (some (t (λ r. matters (bounds r)))) x → run d (by_measure question none bounds t) ≡ when_needed n
  unfolding by_measure
  run_measure {x} e h =
      run_needed d question t (λ x. narrow (λ r. fits (bounds r) x) none t) (some (t (λ r. matters (bounds r)))) x e
      ∙ ap when_needed (sym h)
