-- Steps 7 to 11 as they run: each step, and then what follows from it. Assumes nothing.
use Prim.Native.Nat.{◌≤◌, ◌<◌}
use mathlib.Core.Path.{◌≡◌, refl, ◌∙◌, ap, fun_ext}
use borrow.Author.Tests.{le-leb, lt-leb}
use Rattle.std.specs.Prelude.{Err}
use Rattle.guideline.specs.declared.context.Context.{Context}
use Rattle.guideline.specs.declared.entries.Datum.{Datum}
use Rattle.guideline.specs.declared.entries.Prescription.{Prescription}
use Rattle.guideline.specs.Types.{Value}
use Rattle.guideline.specs.declared.refusals.Ending.TheVariants.{TooManyRows}
use Rattle.guideline.specs.declared.refusals.Refusal.{Refusal}
use Rattle.guideline.specs.declared.refusals.Refusal.TheVariants.{Ends}
use Rattle.guideline.specs.declared.rows.Row643.{Row643}
use Rattle.guideline.specs.declared.rows.Row649.{Row649}
use Rattle.guideline.specs.Ask.{Step, Chosen, Refused, run, ◌>>=◌, ◌>>◌, after}
use Rattle.guideline.specs.Results.{answered}
use Rattle.guideline.specs.Table.{Table, number, every}
use Rattle.guideline.specs.Forms.{when, refuse, demand}
use Rattle.guideline.specs.Steps.{most_in_category, few, by_age, by_frequency, by_weight, by_surface, one_row, of_rows}
use Rattle.guideline.proofs.Run.{run_bind}

module _ (d : Datum → Value) (limits : Table Row649) (p : Prescription) (c : Context) (t : Table Row643) where
  abbrev pub from_weight : Table Row643 → Step Row643
  from_weight f = by_weight f >>= λ w. by_surface w >>= one_row

  abbrev pub from_frequency : Table Row643 → Step Row643
  from_frequency a = by_frequency limits p c a >>= from_weight

  -- the links are the guideline's chain
  pub linked : of_rows limits p c t ≡ (few t >> (by_age c.age t >>= from_frequency))
  unfolding of_rows
  linked = refl

  pub too_many : most_in_category < number (t every) → Err (Ends TooManyRows) ≡ answered (run d (of_rows limits p c t))
  unfolding few demand when refuse ◌>>◌ ◌>>=◌
  too_many h = rw (linked, lt-leb (number (t every)) most_in_category h)

  few_enough : number (t every) ≤ most_in_category → of_rows limits p c t ≡ (by_age c.age t >>= from_frequency)
  unfolding few demand when ◌>>◌ ◌>>=◌
  few_enough h = rw (linked, le-leb (number (t every)) most_in_category h)

  -- where the rows are few enough
  module _ (h : number (t every) ≤ most_in_category) where
    runs : run d (of_rows limits p c t) ≡ after (run d (by_age c.age t)) (λ a. after (run d (by_frequency limits p c a)) (λ f. after (run d (by_weight f)) (λ w. after (run d (by_surface w)) (λ s. run d (one_row s)))))
    runs =
        ap (run d) (few_enough h)
        ∙ run_bind d (by_age c.age t) from_frequency
        ∙ ap (after (run d (by_age c.age t))) (fun_ext (λ a. run_bind d (by_frequency limits p c a) from_weight ∙ ap (after (run d (by_frequency limits p c a))) (fun_ext (λ f. run_bind d (by_weight f) (λ w. by_surface w >>= one_row) ∙ ap (after (run d (by_weight f))) (fun_ext (λ w. run_bind d (by_surface w) one_row))))))

    pub age_refused : {why : Refusal} → run d (by_age c.age t) ≡ Refused why tt → Err why ≡ answered (run d (of_rows limits p c t))
    age_refused e = rw (runs, e)

    module _ {a : Table Row643} (aged : run d (by_age c.age t) ≡ Chosen a) where
      pub frequency_refused : {why : Refusal} → run d (by_frequency limits p c a) ≡ Refused why tt → Err why ≡ answered (run d (of_rows limits p c t))
      frequency_refused e = rw (runs, aged, e)

      module _ {f : Table Row643} (often : run d (by_frequency limits p c a) ≡ Chosen f) where
        pub weight_refused : {why : Refusal} → run d (by_weight f) ≡ Refused why tt → Err why ≡ answered (run d (of_rows limits p c t))
        weight_refused e = rw (runs, aged, often, e)

        module _ {w : Table Row643} (heavy : run d (by_weight f) ≡ Chosen w) where
          pub surface_refused : {why : Refusal} → run d (by_surface w) ≡ Refused why tt → Err why ≡ answered (run d (of_rows limits p c t))
          surface_refused e = rw (runs, aged, often, heavy, e)

          pub row_answers : {s : Table Row643} → run d (by_surface w) ≡ Chosen s → answered (run d (one_row s)) ≡ answered (run d (of_rows limits p c t))
          row_answers e = rw (runs, aged, often, heavy, e)
