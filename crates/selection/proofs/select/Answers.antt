-- A refusal ends the chain; what was chosen goes on to the next step. Assumes nothing.
use mathlib.Core.Path.{◌∙◌}
use Rattle.std.proofs.lemmas.Result.{err_from_is_err_and}
use Rattle.guideline.specs.declared.context.Context.{Context}
use Rattle.guideline.specs.Bytes.{seen, spelled}
use Rattle.guideline.specs.Entries.{datum}
use Rattle.guideline.specs.Steps.{selection, nothing, to_basis, to_category, to_rule}
use Rattle.cells.specs.Lents.{shown_by}
use Rattle.guideline.proofs.Ended.{stops, passes, stops_at, passes_at}
use Rattle.selection.proofs.select.Goals as goal

pub returns-in_err-product : goal.returns-in_err-product
unfolding selection spelled shown_by seen
returns-in_err-product c =
    let d = datum c.args.d in
    let e = err_from_is_err_and c.from_residual.result c.from_residual.ensures.1 in
    rw (e.1, e.2) (stops d nothing _ _ (c.product.ensures d) c.in_err-product.was)

pub returns-in_err-age : goal.returns-in_err-age
unfolding selection spelled shown_by seen
returns-in_err-age c =
    let d = datum c.args.d in
    let e = err_from_is_err_and c.from_residual-in_err-age.result c.from_residual-in_err-age.ensures.1 in
    rw (e.1, e.2) (stops d nothing _ _ c.person.ensures c.in_err-age.was
    ∙ passes d nothing _ _ (c.product.ensures d) c.in_ok-product.was)

pub returns-in_err-level : goal.returns-in_err-level
unfolding selection spelled shown_by seen
returns-in_err-level c =
    let d = datum c.args.d in
    let e = err_from_is_err_and c.from_residual-in_err-level.result c.from_residual-in_err-level.ensures.1 in
    rw (e.1, e.2) (stops d nothing _ _ c.level.ensures c.in_err-level.was
    ∙ passes d nothing _ _ c.person.ensures c.in_ok-age.was
    ∙ passes d nothing _ _ (c.product.ensures d) c.in_ok-product.was)

pub returns-in_err-setting : goal.returns-in_err-setting
unfolding selection spelled shown_by seen
returns-in_err-setting c =
    let d = datum c.args.d in
    let l = c.in_ok-level.level in
    let e = err_from_is_err_and c.from_residual-in_err-setting.result c.from_residual-in_err-setting.ensures.1 in
    rw (e.1, e.2) (stops_at d (to_basis l) _ _ (rw c.entered.ensures at (c.setting.ensures d)) (rw c.to_basis.ensures at c.at.ensures) c.in_err-setting.was
    ∙ passes d nothing _ _ c.level.ensures c.in_ok-level.was
    ∙ passes d nothing _ _ c.person.ensures c.in_ok-age.was
    ∙ passes d nothing _ _ (c.product.ensures d) c.in_ok-product.was)

pub returns-in_err-row : goal.returns-in_err-row
unfolding selection spelled shown_by seen
returns-in_err-row c =
    let d = datum c.args.d in
    let l = c.in_ok-level.level in
    let k : Context = record { ratio = c.args.ratio; product = c.in_ok-product.product; age = c.in_ok-age.age; level = l; setting = c.in_ok-setting.setting } in
    let e = err_from_is_err_and c.from_residual-in_err-row.result c.from_residual-in_err-row.ensures.1 in
    rw (e.1, e.2) (stops_at d (to_category k) _ _ c.dose_row.ensures (rw c.to_category.ensures at c.at-2.ensures) c.in_err-row.was
    ∙ passes_at d (to_basis l) _ _ (rw c.entered.ensures at (c.setting.ensures d)) (rw c.to_basis.ensures at c.at.ensures) c.in_ok-setting.was
    ∙ passes d nothing _ _ c.level.ensures c.in_ok-level.was
    ∙ passes d nothing _ _ c.person.ensures c.in_ok-age.was
    ∙ passes d nothing _ _ (c.product.ensures d) c.in_ok-product.was)

pub returns-in_err-limits : goal.returns-in_err-limits
unfolding selection spelled shown_by seen
returns-in_err-limits c =
    let d = datum c.args.d in
    let l = c.in_ok-level.level in
    let k : Context = record { ratio = c.args.ratio; product = c.in_ok-product.product; age = c.in_ok-age.age; level = l; setting = c.in_ok-setting.setting } in
    let e = err_from_is_err_and c.from_residual-in_err-limits.result c.from_residual-in_err-limits.ensures.1 in
    rw (e.1, e.2) (stops_at d (to_rule k c.in_ok-row.row) _ _ (c.limits_of.ensures d) (rw c.to_rule.ensures at c.at-3.ensures) c.in_err-limits.was
    ∙ passes_at d (to_category k) _ _ c.dose_row.ensures (rw c.to_category.ensures at c.at-2.ensures) c.in_ok-row.was
    ∙ passes_at d (to_basis l) _ _ (rw c.entered.ensures at (c.setting.ensures d)) (rw c.to_basis.ensures at c.at.ensures) c.in_ok-setting.was
    ∙ passes d nothing _ _ c.level.ensures c.in_ok-level.was
    ∙ passes d nothing _ _ c.person.ensures c.in_ok-age.was
    ∙ passes d nothing _ _ (c.product.ensures d) c.in_ok-product.was)

pub returns : goal.returns
unfolding selection spelled shown_by seen
returns c =
    let d = datum c.args.d in
    let l = c.in_ok-level.level in
    let k : Context = record { ratio = c.args.ratio; product = c.in_ok-product.product; age = c.in_ok-age.age; level = l; setting = c.in_ok-setting.setting } in
    passes_at d (to_rule k c.in_ok-row.row) _ _ (c.limits_of.ensures d) (rw c.to_rule.ensures at c.at-3.ensures) c.in_ok-limits.was
    ∙ passes_at d (to_category k) _ _ c.dose_row.ensures (rw c.to_category.ensures at c.at-2.ensures) c.in_ok-row.was
    ∙ passes_at d (to_basis l) _ _ (rw c.entered.ensures at (c.setting.ensures d)) (rw c.to_basis.ensures at c.at.ensures) c.in_ok-setting.was
    ∙ passes d nothing _ _ c.level.ensures c.in_ok-level.was
    ∙ passes d nothing _ _ c.person.ensures c.in_ok-age.was
    ∙ passes d nothing _ _ (c.product.ensures d) c.in_ok-product.was
