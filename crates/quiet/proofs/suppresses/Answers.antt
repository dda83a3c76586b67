-- A condition that fails leaves the signal; else the rows per day are looked at. Assumes nothing.
use mathlib.Core.Path.{sym, ◌∙◌, ap}
use Rattle.std.proofs.lemmas.Result.{err_from_is_err_and}
use Rattle.guideline.specs.Ask.{Chosen}
use Rattle.guideline.specs.Entries.{datum}
use Rattle.keys.specs.Rows.{lent_rows}
use Rattle.sieve.specs.Left.{kept}
use Rattle.quiet.proofs.FittingRuns.{run_weight, run_surface}
use Rattle.quiet.proofs.Links.{stands, weight_asked, surface_asked, fit}
use Rattle.quiet.proofs.suppresses.Goals as goal

pub returns-then-not-may_suppress : goal.returns-then-not-may_suppress
returns-then-not-may_suppress c =
    let a = c.args in
    stands (lent_rows a.t649.now) a.p a.c (kept a.left.now) (datum a.d) (sym c.may_suppress.ensures ∙ c.if-not-may_suppress.true)

pub returns-in_err-heavy : goal.returns-in_err-heavy
returns-in_err-heavy c =
    let a = c.args in
    let may = sym c.may_suppress.ensures ∙ c.if-not-may_suppress.false in
    let asked = run_weight (datum a.d) a.left.now c.by_frequency-per_day.ensures c.requires.2 c.requires.3 (sym c.in_err-heavy.was ∙ c.fitting.ensures) in
    let q = err_from_is_err_and c.from_residual.result c.from_residual.ensures.1 in
    rw (q.1, q.2) (weight_asked (lent_rows a.t649.now) a.p a.c (kept a.left.now) (datum a.d) may asked)

pub returns-in_err-large : goal.returns-in_err-large
returns-in_err-large c =
    let a = c.args in
    let may = sym c.may_suppress.ensures ∙ c.if-not-may_suppress.false in
    let before = sym c.in_ok-heavy.was ∙ c.fitting.ensures in
    let heavy = run_weight (datum a.d) a.left.now c.by_frequency-per_day.ensures c.requires.2 c.requires.3 before in
    let asked = run_surface (datum a.d) a.left.now c.by_frequency-per_day.ensures _ c.requires.4 before (sym c.in_err-large.was ∙ c.fitting-2.ensures) in
    let q = err_from_is_err_and c.from_residual-in_err-large.result c.from_residual-in_err-large.ensures.1 in
    rw (q.1, q.2) (surface_asked (lent_rows a.t649.now) a.p a.c (kept a.left.now) (datum a.d) may heavy asked)

pub returns : goal.returns
returns c =
    let a = c.args in
    let may = sym c.may_suppress.ensures ∙ c.if-not-may_suppress.false in
    let before = sym c.in_ok-heavy.was ∙ c.fitting.ensures in
    let heavy = run_weight (datum a.d) a.left.now c.by_frequency-per_day.ensures c.requires.2 c.requires.3 before in
    let large = run_surface (datum a.d) a.left.now c.by_frequency-per_day.ensures _ c.requires.4 before (sym c.in_ok-large.was ∙ c.fitting-2.ensures) in
    fit (lent_rows a.t649.now) a.p a.c (kept a.left.now) (datum a.d) may heavy large ∙ ap Chosen (sym c.lower.ensures)
