-- The length, the fixed parts, the digits and the mutation digit, tested in document 01's order.
use mathlib.Core.Path.{sym, ap, ◌∙◌}
use Rattle.std.proofs.lemmas.Result.{err_from_is_err_and}
use Rattle.records.specs.Layout.{said}
use Rattle.records.proofs.Fitting.{fits_within}
use Rattle.records.proofs.Steps.{other_length, other_text, no_digits, high_digit, all_read, lacking, read}
use Rattle.records.proofs.layout.Layout.read.Goals as goal

pub returns-then-s-total-clause-numbers : goal.returns-then-s-total-clause-numbers
returns-then-s-total-clause-numbers g c = other_length _ _ _ (rw c.total.ensures at c.if-s-total.true)

pub returns-then-not-is_fixed-clause-numbers : goal.returns-then-not-is_fixed-clause-numbers
returns-then-not-is_fixed-clause-numbers g c = other_text _ _ _ (c.if-s-total.false ∙ c.total.ensures) (sym c.if-not-is_fixed.ensures)

pub returns-in_err-numbers-clause-numbers : goal.returns-in_err-numbers-clause-numbers
returns-in_err-numbers-clause-numbers g c =
    let p = err_from_is_err_and c.from_residual.result c.from_residual.ensures.1 in
    let d = lacking _ _ _ _ c.in_err-numbers.ensures in
    rw (p.1, p.2, d.1) (no_digits _ _ _ (c.if-s-total.false ∙ c.total.ensures) (sym c.if-not-is_fixed.ensures) d.0)

pub returns-then-not-fits-clause-numbers : goal.returns-then-not-fits-clause-numbers
returns-then-not-fits-clause-numbers g c =
    let l = c.if-s-total.false ∙ c.total.ensures in
    let r = read _ _ _ l c.in_ok-numbers.ensures in
    high_digit _ _ _ l (sym c.if-not-is_fixed.ensures) r.0 (sym (c.if-not-fits.ensures ∙ r.2))

pub returns-clause-numbers : goal.returns-clause-numbers
returns-clause-numbers g c =
    let l = c.if-s-total.false ∙ c.total.ensures in
    let r = read _ _ _ l c.in_ok-numbers.ensures in
    ap said r.1 ∙ all_read _ _ _ l (sym c.if-not-is_fixed.ensures) r.0 (sym (c.if-not-fits.ensures ∙ r.2))

pub returns-clause-fit : goal.returns-clause-fit
returns-clause-fit g c = fits_within _ _ (sym c.if-not-fits.ensures)
