-- P7, "proved once over both": for all tables and entries the answer under edition 1 is the answer under edition 2 with that one change, at the same place in
-- document 01's order (`editions`). Under edition 2 it is the answer of the check without editions, which stands below in its own words (`current_as_before`);
-- edition 1 gives no number and no text that a host on the former text set lacks (`former_set_only`).
use Prim.Native.Nat.{ℕ}
use mathlib.Core.Path.{◌≡◌, refl, sym, ◌∙◌, ap, ap₂, subst}
use mathlib.Core.Bool.{Bool, true, false, cond, not, ◌&&◌, ◌||◌, and-true}
use lib.Dec.{T, eqb}
use Rattle.guideline.specs.Types.{Entry, Answer, Ending, Refusal, Ends, Reached, Compared}
use Rattle.guideline.specs.Values.{within, codes, narrow_range, former, current}
use Rattle.guideline.specs.Ask.{Outcome, Chosen, Refused, after}
use Rattle.guideline.specs.Rows.{Tables}
use Rattle.guideline.specs.Entries.{datum, datum_in_range, each, switch_in_range, edition_in_range, setting_in_range, dose_in_range, units_in_range, prescription_in_range, in_range, with_edition}
use Rattle.guideline.specs.Edition.{missing_frequency, former_signal, former_text, in_former, in_edition}
use Rattle.guideline.specs.Steps.{Verdict, nothing}
use Rattle.guideline.specs.Check.{up_to_step_2, from_step_2, outcome, place_of, refused, compared, answer, check}
use Rattle.guideline.proofs.AllRefusals.{of_every_refusal}
use Rattle.guideline.proofs.Opened.{opened}
use Rattle.guideline.proofs.BeforeStep2.{after_alike, Treated, alike}

module _ (t : Tables) (e : Entry) where
  abbrev in_1 : Entry
  in_1 = with_edition former e

  abbrev in_2 : Entry
  in_2 = with_edition current e

  -- steps 2 to 12 of two entries
  abbrev Same : Entry → Entry → Type 0
  Same f f' = from_step_2 t f' ≡ from_step_2 t f

  -- no step looks at the edition, nor does table 70
  treated : Treated t Same in_2 in_1
  unfolding opened
  treated = record { hpk = refl; as_they_are = refl; agree = λ r o. refl; as_filled = λ r o a. refl }

  same_range : in_range in_1 ≡ in_range in_2
  unfolding opened
  same_range = refl

  pub same_outcome : outcome t in_1 ≡ outcome t in_2
  unfolding outcome
  same_outcome =
      ap₂ (λ (s : Bool) (o : Outcome Reached Verdict). cond s o (Refused (Ends Ending.EntryOutOfRange) nothing)) same_range
      (after_alike Same (from_step_2 t) (from_step_2 t) (λ f f' h. h) (up_to_step_2 t in_2) (up_to_step_2 t in_1) (alike t Same in_2 in_1 treated))

  -- the numbers, and the place
  pub editions : (check t in_1 ≡ in_former (check t in_2)) × (place_of (outcome t in_1) ≡ place_of (outcome t in_2))
  unfolding check in_edition
  editions = (ap (λ (o : Outcome Reached Verdict). in_former (answer o)) same_outcome, ap place_of same_outcome)

-- 125 without an edition, and the check whose answer is given in one way only
unfoldable pub in_range_without_edition : Entry → Bool
in_range_without_edition e =
    (within codes e.rest.gpk
    && (setting_in_range e.rest
    && (dose_in_range e.rest
    && (units_in_range e.rest && (switch_in_range e.rest.months && switch_in_range e.rest.quiet)))))
    && each (λ x. datum_in_range x (datum e.known x))

unfoldable pub check_without_edition : Tables → Entry → Answer
check_without_edition t e =
    answer (cond (in_range_without_edition e) (after (up_to_step_2 t e) (from_step_2 t)) (Refused (Ends Ending.EntryOutOfRange) nothing))

pub current_as_before : (t : Tables) (e : Entry) → e.rest.edition ≡ current → check t e ≡ check_without_edition t e
unfolding check check_without_edition outcome in_edition in_range in_range_without_edition prescription_in_range edition_in_range
current_as_before t e h =
    subst (λ (n : ℕ). in_edition n (answer (outcome t e)) ≡ answer (outcome t e)) (sym h) refl
    ∙ ap (λ (s : Bool). answer (cond s (after (up_to_step_2 t e) (from_step_2 t)) (Refused (Ends Ending.EntryOutOfRange) nothing))) range_without
  where
    range_without : in_range e ≡ in_range_without_edition e
    range_without = rw (h, and-true (switch_in_range e.rest.quiet)) refl

-- what a host on the former text set knows: neither 115 nor 116, as answer or suppressed, and neither text 24 nor text 25
abbrev pub in_former_set : Answer → Bool
in_former_set a =
    not (eqb a.answer 115 || eqb a.answer 116)
    && (not (eqb a.suppressed 115 || eqb a.suppressed 116) && not (eqb a.text 24 || eqb a.text 25))

compared_in_former_set : (c : Compared) (g : Reached) → T (in_former_set (in_former (compared c g)))
unfolding in_former former_signal former_text missing_frequency
compared_in_former_set c g = go (eqb c.high 2) (eqb c.high 1) (eqb c.low 1) (eqb c.risk narrow_range)
  where
    text : Bool → Bool → Bool → Bool → ℕ
    text s t u r = cond s (cond r 6 3) (cond t (cond r 5 1) (cond u 2 0))

    go : (s t u r : Bool) → T (not (eqb (text s t u r) 24 || eqb (text s t u r) 25))
    go true t u true = tt
    go true t u false = tt
    go false true u true = tt
    go false true u false = tt
    go false false true r = tt
    go false false false r = tt

-- what is reached is none of these numbers
refused_in_former_set : (r : Refusal) → T (in_former_set (in_former (refused r nothing)))
unfolding in_former former_signal former_text missing_frequency
refused_in_former_set = of_every_refusal (λ r. in_former_set (in_former (refused r nothing))) tt

pub former_set_only : (t : Tables) (e : Entry) → e.rest.edition ≡ former → T (in_former_set (check t e))
unfolding check in_edition in_former
former_set_only t e h = subst (λ (n : ℕ). T (in_former_set (in_edition n (answer (outcome t e))))) (sym h) (go (outcome t e))
  where
    go : (o : Outcome Reached Verdict) → T (in_former_set (in_former (answer o)))
    go (Chosen v) = compared_in_former_set v.compared v.reached
    go (Refused r g) = refused_in_former_set r
