-- What each step of the check says of its outcome: a step that refuses ends it, one that has chosen hands on. Assumes nothing.
use mathlib.Core.Path.{◌≡◌, refl, sym, ◌∙◌, ap}
use mathlib.Core.Bool.{Bool, true, false}
use Rattle.std.specs.Prelude.{Result, Ok, Err}
use Rattle.guideline.specs.Types.{Value}
use Rattle.guideline.specs.declared.answer.Reached.{Reached}
use Rattle.guideline.specs.declared.answer.Verdict.{Verdict}
use Rattle.guideline.specs.declared.context.Ratio.{Ratio}
use Rattle.guideline.specs.declared.entries.Datum.{Datum}
use Rattle.guideline.specs.declared.entries.Entry.{Entry}
use Rattle.guideline.specs.declared.entries.Prescription.{Prescription}
use Rattle.guideline.specs.declared.refusals.Ending.{Ending}
use Rattle.guideline.specs.declared.refusals.Refusal.{Refusal}
use Rattle.guideline.specs.declared.refusals.Refusal.TheVariants.{Ends}
use Rattle.guideline.specs.declared.refusals.Stopped.{Stopped}
use Rattle.guideline.specs.declared.rows.TableName.TheVariants.{T070}
use Rattle.guideline.specs.Ask.{Plan, Outcome, Chosen, Refused, run, after, no_data, at, ◌>>=◌, ◌>>◌}
use Rattle.guideline.specs.Bytes.{spelled}
use Rattle.guideline.specs.Rows.{Tables}
use Rattle.guideline.specs.Entries.{in_range}
use Rattle.guideline.specs.Filling.{filling}
use Rattle.guideline.specs.Results.{stopped_at, ended}
use Rattle.guideline.specs.Steps.{nothing, sound, selection, before_step_2}
use Rattle.guideline.specs.Check.{up_to_step_2, from_step_2, outcome, answer}
use Rattle.guideline.proofs.Run.{run_bind, run_at, step_refused, step_chosen}
use Rattle.keys.specs.declared.tables.SeenTables.{SeenTables}
use Rattle.keys.specs.Tables.{bytes_of, rule_bytes}
use Rattle.dosecheck.specs.Lines.{answer_to}

pub answer_ended : (o : Outcome Reached Verdict) → answer_to (ended o) ≡ answer o
answer_ended (Chosen v) = refl
answer_ended (Refused why g) = refl

-- what is said to have come of it came of it
pub came : {A : Type 0} (o : Outcome Reached A) {r : Result A Stopped} {a : A} → r ≡ ended o → r ≡ Ok a → o ≡ Chosen a
came (Chosen x) {a = y} h e = let same : x ≡ y = cc in ap Chosen same
came (Refused why g) h e = absurd (cc)

pub stopped : {A : Type 0} (o : Outcome Reached A) {r : Result A Stopped} {s : Stopped} → r ≡ ended o → r ≡ Err s → o ≡ Refused s.why s.reached
stopped (Chosen x) h e = absurd (cc)
stopped (Refused why g) {s = y} h e = let same : stopped_at g why ≡ y = cc in ap (λ (x : Stopped). Refused x.why x.reached) same

-- steps 3 to 11 ask the five tables alone
pub of_rules : (s : SeenTables) (p : Prescription) (q : Ratio) → selection (spelled (rule_bytes s.rules)) p q ≡ selection (spelled (bytes_of s)) p q
unfolding selection spelled
of_rules s p q = refl

-- several steps, and then next
module _ {A B : Type 0} (d : Datum → Value) (p : Plan Reached A) (next : A → Plan Reached B) {r : Result A Stopped} (h : r ≡ ended (run d p)) where
  pub plan_stops : {s : Stopped} → r ≡ Err s → Err s ≡ ended (run d (p >>= next))
  plan_stops e = sym (ap ended (run_bind d p next ∙ ap (λ (o : Outcome Reached A). after o (λ a. run d (next a))) (stopped (run d p) h e)))

  pub plan_passes : {a : A} → r ≡ Ok a → ended (run d (next a)) ≡ ended (run d (p >>= next))
  plan_passes e = sym (ap ended (run_bind d p next ∙ ap (λ (o : Outcome Reached A). after o (λ a. run d (next a))) (came (run d p) h e)))

module _ (t : Tables) (e : Entry) where
  pub out_of_range : in_range e ≡ false → Err (stopped_at nothing (Ends Ending.EntryOutOfRange)) ≡ ended (outcome t e)
  unfolding outcome
  out_of_range h = rw h

  module _ (ranged : in_range e ≡ true) where
    pub tables_stop : {why : Refusal} → run no_data (sound t) ≡ Refused why tt → Err (stopped_at nothing why) ≡ ended (outcome t e)
    unfolding outcome up_to_step_2 before_step_2 ◌>>◌
    tables_stop h = rw (ranged, step_refused no_data nothing (sound t) (λ _. at nothing (filling (t.rows T070) e)) h)

    module _ {b : Bool} (passed : run no_data (sound t) ≡ Chosen b) where
      pub filling_stops : {why : Refusal} → run no_data (filling (t.rows T070) e) ≡ Refused why tt → Err (stopped_at nothing why) ≡ ended (outcome t e)
      unfolding outcome up_to_step_2 before_step_2 ◌>>◌
      filling_stops h = rw (ranged, step_chosen no_data nothing (sound t) (λ _. at nothing (filling (t.rows T070) e)) passed, run_at no_data nothing (filling (t.rows T070) e), h)

      pub filled : {f : Entry} → run no_data (filling (t.rows T070) e) ≡ Chosen f → ended (from_step_2 t f) ≡ ended (outcome t e)
      unfolding outcome up_to_step_2 before_step_2 ◌>>◌
      filled h = rw (ranged, step_chosen no_data nothing (sound t) (λ _. at nothing (filling (t.rows T070) e)) passed, run_at no_data nothing (filling (t.rows T070) e), h)
