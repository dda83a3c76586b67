-- Each way out is the one that the plan of step 10 takes. Assumes nothing.
use mathlib.Core.Path.{refl, sym, ◌∙◌, ap}
use Rattle.std.proofs.lemmas.Result.{err_from_is_err_and}
use Rattle.std.specs.Prelude.{Ok}
use Rattle.guideline.specs.Ask.{Chosen}
use Rattle.guideline.specs.Values.{fits}
use Rattle.filter.specs.Filters.{measure_bounds}
use Rattle.sieve.specs.declared.settled.Settled.{Settled}
use Rattle.sieve.specs.Left.{kept}
use Rattle.sieve.specs.Settled.{and_measure, other_value, settled643}
use Rattle.sieve.proofs.Joined.{measure_joins, other_stays}
use Rattle.dose_row.proofs.Narrowed.{narrow_none, narrow_some, run_measure}
use Rattle.dose_row.proofs.by_measure.by_measure.Goals as goal

pub returns-in_err-x : goal.returns-in_err-x
returns-in_err-x c =
    let a = c.args in
    let t = kept a.left.now in
    let p = err_from_is_err_and c.from_residual.result c.from_residual.ensures.1 in
    λ d e. rw (p.1, p.2) (run_measure d a.question a.none (measure_bounds a.m) t e (sym c.in_err-x.was ∙ c.needed.ensures))

pub returns-in_default : goal.returns-in_default
returns-in_default c =
    let a = c.args in
    let t = kept a.left.now in
    let unneeded = ap Ok (sym c.in_default.is) ∙ sym c.in_ok-x.was ∙ c.needed.ensures in
    λ d e. (refl, run_measure d a.question a.none (measure_bounds a.m) t e unneeded)

pub returns-in_err-narrow : goal.returns-in_err-narrow
returns-in_err-narrow c =
    let a = c.args in
    let t = kept a.left.now in
    let p = err_from_is_err_and c.from_residual-in_err-narrow.result c.from_residual-in_err-narrow.ensures.1 in
    let n = c.in_err-narrow.ensures in
    let given = ap Ok (sym c.in-Some.is) ∙ sym c.in_ok-x.was ∙ c.needed.ensures in
    λ d e.
    rw (p.1, p.2, n.1)
    (run_measure d a.question a.none (measure_bounds a.m) t e given ∙ narrow_none (λ r. fits (measure_bounds a.m r) c.in-Some.x) t d a.none n.0)

pub returns : goal.returns
returns c =
    let a = c.args in
    let s = a.left.now.settled in
    let t = kept a.left.now in
    let n = c.in_ok-narrow.ensures in
    let given = ap Ok (sym c.in-Some.is) ∙ sym c.in_ok-x.was ∙ c.needed.ensures in
    let settled = c.by_measure-settled.ensures ∙ ap (λ (w : Settled). and_measure w a.m c.in-Some.x) n.1 in
    let left = n.2 c.by_measure-settled.result (λ r. ap (λ (w : Settled). settled643 w r) settled ∙ measure_joins a.m s c.in-Some.x c.requires r) in
    λ d e. (
      ap (other_value a.m) settled ∙ other_stays a.m s c.in-Some.x,
      run_measure d a.question a.none (measure_bounds a.m) t e given
          ∙ narrow_some (λ r. fits (measure_bounds a.m r) c.in-Some.x) t d a.none n.0
          ∙ ap Chosen (sym left),
    )
