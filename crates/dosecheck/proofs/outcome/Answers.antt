-- A step that refuses ends the check; what was chosen goes on to the next, in range as the entry is. Assumes nothing.
use mathlib.Core.Bool.{true}
use mathlib.Core.Path.{◌≡◌, sym, ◌∙◌, ap, subst}
use Rattle.std.specs.Prelude.{Result, Ok, Err}
use Rattle.std.proofs.lemmas.Result.{err_from_is_err_and}
use Rattle.guideline.specs.declared.answer.Reached.{Reached}
use Rattle.guideline.specs.declared.context.Ratio.{Ratio}
use Rattle.guideline.specs.declared.context.Selected.{Selected}
use Rattle.guideline.specs.declared.entries.Datum.{Datum}
use Rattle.guideline.specs.declared.entries.Entry.{Entry}
use Rattle.guideline.specs.declared.entries.Prescription.{Prescription}
use Rattle.guideline.specs.declared.refusals.Refusal.{Refusal}
use Rattle.guideline.specs.declared.refusals.Stopped.{Stopped}
use Rattle.guideline.specs.declared.rows.Row649.{Row649}
use Rattle.guideline.specs.declared.rows.TableName.TheVariants.{T649, T730, T070}
use Rattle.guideline.specs.Ask.{Plan, run, no_data}
use Rattle.guideline.specs.Bytes.{Lents, rows_of, seen, spelled}
use Rattle.guideline.specs.Check.{from_step_2}
use Rattle.guideline.specs.Entries.{datum, in_range, prescription_in_range}
use Rattle.guideline.specs.Filling.{filling}
use Rattle.guideline.specs.Lent.{lent}
use Rattle.guideline.specs.Results.{answered, ended}
use Rattle.guideline.specs.Rows.{sound_row}
use Rattle.guideline.specs.Steps.{ratio, nothing, selection, over_sound}
use Rattle.guideline.specs.Table.{all_rows}
use Rattle.guideline.specs.Types.{Value}
use Rattle.guideline.proofs.Answered.{chosen_of, refused_of}
use Rattle.guideline.proofs.Ended.{stops, passes}
use Rattle.guideline.proofs.Gives.{gives_table}
use Rattle.cells.specs.Lents.{shown_by}
use Rattle.keys.specs.declared.tables.SeenTables.{SeenTables}
use Rattle.keys.specs.Tables.{bytes_of, rule_bytes}
use Rattle.entry.proofs.Ranged.{prescription_fine}
use Rattle.filling.proofs.InRange.{filling_in_range}
use Rattle.ranges.specs.Soundly.{soundness}
use Rattle.ranges.proofs.Soundly.{sound_run, refused_run, all_sound}
use Rattle.units.specs.Comparing.{Amounts}
use Rattle.units.proofs.InRange.{answered_in_range}
use Rattle.units.proofs.Sound.{comparable}
use Rattle.dosecheck.proofs.Limits.{selected_kept}
use Rattle.dosecheck.proofs.OutcomeLaws.{came, of_rules, out_of_range, tables_stop, filling_stops, filled, plan_stops, plan_passes}
use Rattle.dosecheck.proofs.outcome.Goals as goal

-- an entry in range is so after filling
fine_after : (b : Lents) (e : Entry) {f : Entry} {r : Result Entry Refusal} → in_range e ≡ true → all_rows (sound_row T070) ((spelled b).rows T070) ≡ true → r ≡ answered (run no_data (filling ((spelled b).rows T070) e)) → r ≡ Ok f → prescription_in_range f.rest ≡ true
unfolding spelled
fine_after b e {f} ranged sound_rows said chose =
    let t = (spelled b).rows T070 in
    prescription_fine f (filling_in_range e f t (gives_table (sound_row T070) (rows_of T070 (b T070)) sound_rows) (chosen_of (run no_data (filling t e)) said chose) ∙ ranged)

-- what `select` says of the five tables it says of the seven
selected : (s : SeenTables) (p : Prescription) (q : Ratio) (d : Datum → Value) {r : Result Selected Stopped} → r ≡ ended (run d (selection (spelled (rule_bytes s.rules)) p q)) → r ≡ ended (run d (selection (spelled (bytes_of s)) p q))
selected s p q d h = h ∙ ap (λ (x : Plan Reached Selected). ended (run d x)) (of_rules s p q)

pub returns-then-not-in_range : goal.returns-then-not-in_range
returns-then-not-in_range c =
    ap Err c.from.ensures ∙ out_of_range (spelled (lent c.args.t)) c.args.e (sym c.in_range.ensures ∙ c.if-not-in_range.true)

pub returns-in_err-tested : goal.returns-in_err-tested
returns-in_err-tested c =
    let b = lent c.args.t in
    let ranged = sym c.in_range.ensures ∙ c.if-not-in_range.false in
    let e = err_from_is_err_and c.from_residual.result c.from_residual.ensures.1 in
    rw (e.1, e.2) (tables_stop (spelled b) c.args.e ranged (refused_run b (sym c.in_err-tested.was ∙ c.requires)))

pub of-seen-requires : goal.of-seen-requires
of-seen-requires c = (sound_run (lent c.args.t) (sym c.in_ok-tested.was ∙ c.requires)).2

pub returns-in_err-f : goal.returns-in_err-f
unfolding spelled shown_by seen
returns-in_err-f c =
    let b = bytes_of c.of-seen.result in
    let ranged = sym c.in_range.ensures ∙ c.if-not-in_range.false in
    let k = sound_run b (sym c.in_ok-tested.was ∙ c.requires ∙ ap soundness (sym c.of-seen.ensures)) in
    let e = err_from_is_err_and c.from_residual-in_err-f.result c.from_residual-in_err-f.ensures.1 in
    rw (e.1, e.2, ← c.of-seen.ensures) (filling_stops (spelled b) c.args.e ranged k.1 (refused_of (run no_data (filling ((spelled b).rows T070) c.args.e)) (c.fill.ensures no_data) c.in_err-f.was))

pub returns-in_err-ratio : goal.returns-in_err-ratio
unfolding spelled shown_by seen from_step_2 over_sound
returns-in_err-ratio c =
    let b = bytes_of c.of-seen.result in
    let ranged = sym c.in_range.ensures ∙ c.if-not-in_range.false in
    let k = sound_run b (sym c.in_ok-tested.was ∙ c.requires ∙ ap soundness (sym c.of-seen.ensures)) in
    let f = c.in_ok-f.f in
    let d = datum f.known in
    let e = err_from_is_err_and c.from_residual-in_err-ratio.result c.from_residual-in_err-ratio.ensures.1 in
    rw (e.1, e.2, ← c.of-seen.ensures) (stops d nothing (ratio ((spelled b).rows T730) f.rest) _ (c.ratio.ensures d) c.in_err-ratio.was
    ∙ filled (spelled b) c.args.e ranged k.1 (chosen_of (run no_data (filling ((spelled b).rows T070) c.args.e)) (c.fill.ensures no_data) c.in_ok-f.was))

pub select-requires : goal.select-requires
unfolding spelled shown_by seen
select-requires c =
    let b = bytes_of c.of-seen.result in
    let told = sym c.in_ok-tested.was ∙ c.requires ∙ ap soundness (sym c.of-seen.ensures) in
    let f = c.in_ok-f.f in
    let d = datum f.known in
    let fine = fine_after b c.args.e (sym c.in_range.ensures ∙ c.if-not-in_range.false) (all_sound b told T070) (c.fill.ensures no_data) c.in_ok-f.was in
    (answered_in_range d ((spelled b).rows T730) f.rest (sym (c.ratio.ensures d) ∙ c.in_ok-ratio.was), record { prescription = fine; limits = all_sound b told T649 })

pub returns-in_err-s : goal.returns-in_err-s
unfolding spelled shown_by seen from_step_2 over_sound
returns-in_err-s c =
    let b = bytes_of c.of-seen.result in
    let ranged = sym c.in_range.ensures ∙ c.if-not-in_range.false in
    let k = sound_run b (sym c.in_ok-tested.was ∙ c.requires ∙ ap soundness (sym c.of-seen.ensures)) in
    let f = c.in_ok-f.f in
    let d = datum f.known in
    let e = err_from_is_err_and c.from_residual-in_err-s.result c.from_residual-in_err-s.ensures.1 in
    rw (e.1, e.2, ← c.of-seen.ensures) (plan_stops d _ _ (selected c.of-seen.result f.rest c.in_ok-ratio.ratio d c.select.ensures) c.in_err-s.was
    ∙ passes d nothing (ratio ((spelled b).rows T730) f.rest) _ (c.ratio.ensures d) c.in_ok-ratio.was
    ∙ filled (spelled b) c.args.e ranged k.1 (chosen_of (run no_data (filling ((spelled b).rows T070) c.args.e)) (c.fill.ensures no_data) c.in_ok-f.was))

pub compare-requires : goal.compare-requires
unfolding spelled shown_by seen
compare-requires c =
    let b = bytes_of c.of-seen.result in
    let told = sym c.in_ok-tested.was ∙ c.requires ∙ ap soundness (sym c.of-seen.ensures) in
    let f = c.in_ok-f.f in
    let d = datum f.known in
    let fine = fine_after b c.args.e (sym c.in_range.ensures ∙ c.if-not-in_range.false) (all_sound b told T070) (c.fill.ensures no_data) c.in_ok-f.was in
    let amounts = answered_in_range d ((spelled b).rows T730) f.rest (sym (c.ratio.ensures d) ∙ c.in_ok-ratio.was) in
    let kept = selected_kept (λ (m : Row649). sound_row T649 m ≡ true) (spelled b) f.rest c.in_ok-ratio.ratio (gives_table (sound_row T649) (rows_of T649 (b T649)) (all_sound b told T649)) d (came _ (selected c.of-seen.result f.rest c.in_ok-ratio.ratio d c.select.ensures) c.in_ok-s.was) in
    comparable f.rest c.in_ok-s.s (subst Amounts (sym kept.1) amounts) fine kept.0

pub returns : goal.returns
unfolding spelled shown_by seen from_step_2 over_sound
returns c =
    let b = bytes_of c.of-seen.result in
    let ranged = sym c.in_range.ensures ∙ c.if-not-in_range.false in
    let k = sound_run b (sym c.in_ok-tested.was ∙ c.requires ∙ ap soundness (sym c.of-seen.ensures)) in
    let f = c.in_ok-f.f in
    let d = datum f.known in
    rw (c.compare.ensures, c.to_rule.ensures, ← c.of-seen.ensures) (plan_passes d _ _ (selected c.of-seen.result f.rest c.in_ok-ratio.ratio d c.select.ensures) c.in_ok-s.was
    ∙ passes d nothing (ratio ((spelled b).rows T730) f.rest) _ (c.ratio.ensures d) c.in_ok-ratio.was
    ∙ filled (spelled b) c.args.e ranged k.1 (chosen_of (run no_data (filling ((spelled b).rows T070) c.args.e)) (c.fill.ensures no_data) c.in_ok-f.was))
