-- A category is refused for its size, or step follows on step: the first that is refused ends the chain. Assumes nothing.
use Prim.Native.Nat.{◌≤◌, ◌<◌}
use mathlib.Core.Path.{refl, ◌∙◌, ap}
use native.Mathlib.Omega.{arith}
use Rattle.std.proofs.lemmas.Result.{err_from_is_err_and}
use Rattle.guideline.specs.declared.rows.Row643.{Row643}
use Rattle.guideline.specs.Ask.{run}
use Rattle.guideline.specs.Entries.{datum}
use Rattle.guideline.specs.Results.{answered}
use Rattle.guideline.specs.Steps.{most_in_category, by_weight, by_surface, of_rows, dose_row}
use Rattle.guideline.specs.Table.{Table, number, every}
use Rattle.keys.specs.Rows.{lent_rows}
use Rattle.sieve.specs.declared.left.Left.{Left}
use Rattle.sieve.specs.declared.settled.Settled.{Settled}
use Rattle.sieve.specs.Left.{kept}
use Rattle.sieve.specs.Settled.{and_age}
use Rattle.dose_row.proofs.Whole.{all_kept}
use Rattle.dose_row.proofs.Links.{too_many, age_refused, frequency_refused, weight_refused, surface_refused, row_answers}
use Rattle.dose_row.proofs.dose_row.Goals as goal

pub returns-then-number-gt-MOST : goal.returns-then-number-gt-MOST
unfolding dose_row
returns-then-number-gt-MOST c =
    let a = c.args in
    let d = datum a.d in
    let limits = lent_rows a.t649.now in
    let s : Left = record { rows = c.of_key.result; settled = c.nothing.result } in
    let t = kept s in
    let whole = all_kept s c.nothing.ensures in
    let many : most_in_category < number (t every) = rw (whole, ← c.number.ensures) (omega arith) in
    too_many d limits a.p a.c t many ∙ ap (λ (rows : Table Row643). answered (run d (of_rows limits a.p a.c rows))) (whole ∙ c.of_key.ensures.rows)

pub returns-in_err-by_age : goal.returns-in_err-by_age
unfolding dose_row
returns-in_err-by_age c =
    let a = c.args in
    let d = datum a.d in
    let limits = lent_rows a.t649.now in
    let s : Left = record { rows = c.of_key.result; settled = c.nothing.result } in
    let t = kept s in
    let whole = all_kept s c.nothing.ensures in
    let few : number (t every) ≤ most_in_category = rw (whole, ← c.number.ensures) (omega arith) in
    let q = err_from_is_err_and c.from_residual.result c.from_residual.ensures.1 in
    rw (q.1, q.2)
    (age_refused d limits a.p a.c t few (c.in_err-by_age.ensures d) ∙ ap (λ (rows : Table Row643). answered (run d (of_rows limits a.p a.c rows))) (whole ∙ c.of_key.ensures.rows))

pub by_frequency-requires : goal.by_frequency-requires
by_frequency-requires c =
    let aged = c.in_ok-by_age.ensures (datum c.args.d) in
    let nothing = ap (λ (s : Settled). and_age s c.args.c.age) c.nothing.ensures in (
      c.requires.0,
      c.requires.1,
      ap (λ (s : Settled). s.frequency) (aged.0 ∙ nothing),
      ap (λ (s : Settled). s.weight) (aged.0 ∙ nothing),
      ap (λ (s : Settled). s.surface) (aged.0 ∙ nothing),
    )

pub returns-in_err-by_frequency : goal.returns-in_err-by_frequency
unfolding dose_row
returns-in_err-by_frequency c =
    let a = c.args in
    let d = datum a.d in
    let limits = lent_rows a.t649.now in
    let s : Left = record { rows = c.of_key.result; settled = c.nothing.result } in
    let t = kept s in
    let whole = all_kept s c.nothing.ensures in
    let few : number (t every) ≤ most_in_category = rw (whole, ← c.number.ensures) (omega arith) in
    let aged = c.in_ok-by_age.ensures d in
    let q = err_from_is_err_and c.from_residual-in_err-by_frequency.result c.from_residual-in_err-by_frequency.ensures.1 in
    rw (q.1, q.2)
    (frequency_refused d limits a.p a.c t few aged.1 (c.in_err-by_frequency.ensures) ∙ ap (λ (rows : Table Row643). answered (run d (of_rows limits a.p a.c rows))) (whole ∙ c.of_key.ensures.rows))

pub returns-in_err-by_measure : goal.returns-in_err-by_measure
unfolding dose_row by_weight
returns-in_err-by_measure c =
    let a = c.args in
    let d = datum a.d in
    let limits = lent_rows a.t649.now in
    let s : Left = record { rows = c.of_key.result; settled = c.nothing.result } in
    let t = kept s in
    let whole = all_kept s c.nothing.ensures in
    let few : number (t every) ≤ most_in_category = rw (whole, ← c.number.ensures) (omega arith) in
    let aged = c.in_ok-by_age.ensures d in
    let often = c.in_ok-by_frequency.ensures in
    let q = err_from_is_err_and c.from_residual-in_err-by_measure.result c.from_residual-in_err-by_measure.ensures.1 in
    rw (q.1, q.2)
    (weight_refused d limits a.p a.c t few aged.1 often.1 (c.in_err-by_measure.ensures d refl) ∙ ap (λ (rows : Table Row643). answered (run d (of_rows limits a.p a.c rows))) (whole ∙ c.of_key.ensures.rows))

pub by_measure-requires-2 : goal.by_measure-requires-2
by_measure-requires-2 c =
    let heavy = c.in_ok-by_measure.ensures (datum c.args.d) refl in
    heavy.0 ∙ c.in_ok-by_frequency.ensures.0.1

pub returns-in_err-by_measure-2 : goal.returns-in_err-by_measure-2
unfolding dose_row by_weight by_surface
returns-in_err-by_measure-2 c =
    let a = c.args in
    let d = datum a.d in
    let limits = lent_rows a.t649.now in
    let s : Left = record { rows = c.of_key.result; settled = c.nothing.result } in
    let t = kept s in
    let whole = all_kept s c.nothing.ensures in
    let few : number (t every) ≤ most_in_category = rw (whole, ← c.number.ensures) (omega arith) in
    let aged = c.in_ok-by_age.ensures d in
    let often = c.in_ok-by_frequency.ensures in
    let heavy = c.in_ok-by_measure.ensures d refl in
    let q = err_from_is_err_and c.from_residual-in_err-by_measure-2.result c.from_residual-in_err-by_measure-2.ensures.1 in
    rw (q.1, q.2)
    (surface_refused d limits a.p a.c t few aged.1 often.1 heavy.1 (c.in_err-by_measure-2.ensures d refl) ∙ ap (λ (rows : Table Row643). answered (run d (of_rows limits a.p a.c rows))) (whole ∙ c.of_key.ensures.rows))

pub returns : goal.returns
unfolding dose_row by_weight by_surface
returns c =
    let a = c.args in
    let d = datum a.d in
    let limits = lent_rows a.t649.now in
    let s : Left = record { rows = c.of_key.result; settled = c.nothing.result } in
    let t = kept s in
    let whole = all_kept s c.nothing.ensures in
    let few : number (t every) ≤ most_in_category = rw (whole, ← c.number.ensures) (omega arith) in
    let aged = c.in_ok-by_age.ensures d in
    let often = c.in_ok-by_frequency.ensures in
    let heavy = c.in_ok-by_measure.ensures d refl in
    let large = c.in_ok-by_measure-2.ensures d refl in
    c.one_row.ensures d
    ∙ row_answers d limits a.p a.c t few aged.1 often.1 heavy.1 large.1
    ∙ ap (λ (rows : Table Row643). answered (run d (of_rows limits a.p a.c rows))) (whole ∙ c.of_key.ensures.rows)
