-- The step is refused, or it leaves the rows that fit the age. Assumes nothing.
use mathlib.Core.Path.{sym, ◌∙◌, ap}
use Rattle.std.proofs.lemmas.Result.{err_from_is_err_and}
use Rattle.guideline.specs.declared.refusals.Ending.TheVariants.{NoRowForAge}
use Rattle.guideline.specs.Ask.{Chosen}
use Rattle.guideline.specs.Steps.{by_age, age_fits}
use Rattle.sieve.specs.declared.settled.Settled.{Settled}
use Rattle.sieve.specs.Left.{kept}
use Rattle.sieve.specs.Settled.{and_age, settled643}
use Rattle.sieve.proofs.Joined.{age_joins}
use Rattle.dose_row.proofs.Narrowed.{narrow_none, narrow_some}
use Rattle.dose_row.proofs.by_age.by_age.Goals as goal

pub returns-in_err-narrow : goal.returns-in_err-narrow
unfolding by_age age_fits
returns-in_err-narrow c =
    let a = c.args in
    let q = err_from_is_err_and c.from_residual.result c.from_residual.ensures.1 in
    let n = c.in_err-narrow.ensures in
    λ d. rw (q.1, q.2, n.1) (narrow_none (age_fits a.months) (kept a.left.now) d NoRowForAge n.0)

pub returns : goal.returns
unfolding by_age age_fits
returns c =
    let a = c.args in
    let s = a.left.now.settled in
    let n = c.in_ok-narrow.ensures in
    let settled = c.by_age-left.ensures ∙ ap (λ (w : Settled). and_age w a.months) n.1 in
    let left = n.2 c.by_age-left.result (λ r. ap (λ (w : Settled). settled643 w r) settled ∙ age_joins s r a.months c.requires) in
    λ d. (settled, narrow_some (age_fits a.months) (kept a.left.now) d NoRowForAge n.0 ∙ ap Chosen (sym left))
