-- A range is refused before the tables are tested. Assumes nothing.
use mathlib.Core.Path.{sym, ◌∙◌, ap}
use Rattle.std.specs.Prelude.{Err}
use Rattle.std.proofs.lemmas.Result.{err_from_is_err_and}
use Rattle.guideline.specs.Bytes.{spelled}
use Rattle.guideline.specs.Lent.{lent}
use Rattle.each_count.proofs.Lists.{refused_list}
use Rattle.each_count.proofs.check_each.Goals as goal

pub returns-in_err-count : goal.returns-in_err-count
returns-in_err-count c =
    let a = c.args in
    let e = err_from_is_err_and c.from_residual.result c.from_residual.ensures.1 in
    let said = sym c.in_err-count.was ∙ c.count.ensures in
    (e.1 ∙ ap Err e.2 ∙ said, sym (refused_list (spelled (lent a.t)) a.e a.first a.last a.list.now _ (sym said)))
