-- P5: an empty table 70 gives every answer as before. Below is the check without table 70: six tables in 121 and 122, and no filling. With a table 70 that has
-- no rows the check is that (`empty_as_before`, and of the lent bytes `no_bytes_as_before`), outcome and place with it.
use mathlib.Core.Path.{◌≡◌, refl, sym, ◌∙◌, ap}
use mathlib.Core.Bool.{Bool, true, cond, not}
use mathlib.Core.List.{List, [], ◌∷◌}
use Rattle.guideline.specs.Types.{Value, Blank, Given, Prescription, Entry, Answer, TableName, T640, T641, T642, T643, T649, T730, T070, Ending, Ends, Reached}
use Rattle.guideline.specs.Ask.{Plan, Step, ◌>>=◌, ◌>>◌, at, Outcome, Chosen, Refused, run, after}
use Rattle.guideline.specs.Table.{Hits, None, all_rows}
use Rattle.guideline.specs.Rows.{Row, sound_row, Tables}
use Rattle.guideline.specs.Bytes.{whole_rows, seen, Lents, spelled}
use Rattle.guideline.specs.Entries.{datum, in_range}
use Rattle.guideline.specs.Edition.{in_edition}
use Rattle.guideline.specs.Forms.{when, demand}
use Rattle.guideline.specs.Filling.{of_hpk}
use Rattle.guideline.specs.Steps.{each_table, whole, in_ranges, sound, nothing, Verdict, over_sound}
use Rattle.guideline.specs.Check.{up_to_step_2, from_step_2, outcome, answer, check}
use Rattle.guideline.proofs.BeforeStep2.{step_1, hpk_rows, filled, comes_to, step_1_on}
use Rattle.guideline.proofs.Run.{run_then}

-- "121 for tables 640, 641, 642, 643, 649, 730 in that order, then 122 likewise"
abbrev pub six_tables : List TableName
six_tables = T640 ∷ T641 ∷ T642 ∷ T643 ∷ T649 ∷ T730 ∷ []

unfoldable pub sound_without_70 : Tables → Step Bool
sound_without_70 t =
    each_table t.whole Ending.NotWhole six_tables
    >> each_table (λ n. all_rows (sound_row n) (t.rows n)) Ending.OutOfRange six_tables

-- the twelve steps, on the entry as it was entered
unfoldable pub plan_without_70 : Tables → Prescription → Plan Reached Verdict
plan_without_70 t e = at nothing (sound_without_70 t) >> over_sound t e

unfoldable pub outcome_without_70 : Tables → Entry → Outcome Reached Verdict
outcome_without_70 t e =
    cond (in_range e) (run (datum e.known) (plan_without_70 t e.rest)) (Refused (Ends Ending.EntryOutOfRange) nothing)

unfoldable pub check_without_70 : Tables → Entry → Answer
check_without_70 t e = in_edition e.rest.edition (answer (outcome_without_70 t e))

-- a table 70 without rows
pub record Empty70 (t : Tables) : Type 0 where
  pub whole : t.whole T070 ≡ true
  pub no_row : (p : Row T070 → Bool) → t.rows T070 p ≡ None

module _ (t : Tables) (empty : Empty70 t) (e : Entry) where
  same_sound : sound t ≡ sound_without_70 t
  unfolding sound whole in_ranges sound_without_70 each_table demand when ◌>>◌ ◌>>=◌
  same_sound = rw (empty.whole, empty.no_row (λ r. not (sound_row T070 r))) refl

  no_hpk_row : hpk_rows t e ≡ None
  unfolding of_hpk
  no_hpk_row = go e.known.hpk
    where
      go : (v : Value) → of_hpk (t.rows T070) v ≡ None
      go Blank = refl
      go (Given hpk) = empty.no_row _

  nothing_filled : up_to_step_2 t e ≡ after (step_1 t) (λ _. Chosen e)
  nothing_filled = comes_to t e ∙ ap (λ (h : Hits (Row T070)). after (step_1 t) (λ _. filled h e)) no_hpk_row

  same_steps : after (up_to_step_2 t e) (from_step_2 t) ≡ run (datum e.known) (plan_without_70 t e.rest)
  unfolding plan_without_70 from_step_2
  same_steps =
      ap (λ (o : Outcome Reached Entry). after o (from_step_2 t)) nothing_filled
      ∙ go (step_1 t)
      ∙ ap (λ (o : Outcome Reached Bool). after o (λ _. from_step_2 t e)) (sym (step_1_on t (datum e.known)))
      ∙ ap (λ (s : Step Bool). after (run (datum e.known) (at nothing s)) (λ _. from_step_2 t e)) same_sound
      ∙ sym (run_then (datum e.known) (at nothing (sound_without_70 t)) (over_sound t e.rest))
    where
      go : (o : Outcome Reached Bool) → after (after o (λ _. Chosen e)) (from_step_2 t) ≡ after o (λ _. from_step_2 t e)
      go (Chosen b) = refl
      go (Refused r g) = refl

  -- the outcome, and so its place in document 01's order
  pub empty_outcome_as_before : outcome t e ≡ outcome_without_70 t e
  unfolding outcome outcome_without_70
  empty_outcome_as_before =
      ap (λ (o : Outcome Reached Verdict). cond (in_range e) o (Refused (Ends Ending.EntryOutOfRange) nothing)) same_steps

  pub empty_as_before : check t e ≡ check_without_70 t e
  unfolding check check_without_70
  empty_as_before = ap (λ (o : Outcome Reached Verdict). in_edition e.rest.edition (answer o)) empty_outcome_as_before

-- no byte of table 70 is lent
pub no_bytes_as_before : (b : Lents) (e : Entry) → b T070 ≡ [] → check (spelled b) e ≡ check_without_70 (spelled b) e
unfolding spelled whole_rows seen
no_bytes_as_before b e h = empty_as_before (spelled b) (record { whole = of_none_whole; no_row = of_none }) e
  where
    of_none_whole : (spelled b).whole T070 ≡ true
    of_none_whole = rw h refl

    of_none : (p : Row T070 → Bool) → (spelled b).rows T070 p ≡ None
    of_none p = rw h refl
