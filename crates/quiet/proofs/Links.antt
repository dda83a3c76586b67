-- 3.4.2 as it runs: each step, and then what follows from it. Assumes nothing.
use mathlib.Core.Path.{◌≡◌, refl, ◌∙◌, ap, fun_ext}
use mathlib.Core.Bool.{Bool, true, false}
use Rattle.guideline.specs.declared.context.Context.{Context}
use Rattle.guideline.specs.declared.entries.Datum.{Datum}
use Rattle.guideline.specs.declared.entries.Prescription.{Prescription}
use Rattle.guideline.specs.declared.refusals.Refusal.{Refusal}
use Rattle.guideline.specs.declared.rows.Row643.{Row643}
use Rattle.guideline.specs.declared.rows.Row649.{Row649}
use Rattle.guideline.specs.Types.{Value}
use Rattle.guideline.specs.Ask.{Done, Step, ◌>>=◌, Chosen, Refused, run, after}
use Rattle.guideline.specs.Forms.{when}
use Rattle.guideline.specs.Quiet.{may_suppress, of_day, suppresses, fitting_weight, fitting_surface, lower}
use Rattle.guideline.specs.Table.{Table, among}
use Rattle.guideline.proofs.Run.{run_bind}

module _ (limits : Table Row649) (p : Prescription) (c : Context) (t : Table Row643) (d : Datum → Value) where
  pub stands : may_suppress p c ≡ false → run d (suppresses limits p c t) ≡ Chosen false
  unfolding suppresses when
  stands h = rw h

  abbrev lowered : Table Row643 → Step Bool
  lowered s = Done (lower limits p c.ratio s)

  abbrev pub from_surface : Table Row643 → Step Bool
  from_surface w = fitting_surface w >>= lowered

  abbrev by_weight : Step (Table Row643)
  by_weight = fitting_weight (among of_day t)

  -- the links are the guideline's `suppresses`
  pub linked : suppresses limits p c t ≡ when (may_suppress p c) (by_weight >>= from_surface) (Done false)
  unfolding suppresses
  linked = refl

  runs : may_suppress p c ≡ true → run d (suppresses limits p c t) ≡ after (run d by_weight) (λ w. after (run d (fitting_surface w)) (λ s. Chosen (lower limits p c.ratio s)))
  unfolding when
  runs h =
      rw (linked, h) (run_bind d by_weight from_surface)
      ∙ ap (after (run d by_weight)) (fun_ext (λ w. run_bind d (fitting_surface w) lowered))

  module _ (h : may_suppress p c ≡ true) where
    pub weight_asked : {q : Refusal} → run d by_weight ≡ Refused q tt → run d (suppresses limits p c t) ≡ Refused q tt
    weight_asked e = runs h ∙ rw e

    module _ {w : Table Row643} (heavy : run d by_weight ≡ Chosen w) where
      pub surface_asked : {q : Refusal} → run d (fitting_surface w) ≡ Refused q tt → run d (suppresses limits p c t) ≡ Refused q tt
      surface_asked e = runs h ∙ rw (heavy, e)

      pub fit : {s : Table Row643} → run d (fitting_surface w) ≡ Chosen s → run d (suppresses limits p c t) ≡ Chosen (lower limits p c.ratio s)
      fit e = runs h ∙ rw (heavy, e)
