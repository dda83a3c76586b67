-- A range that is refused has no answers to put. Assumes nothing.
use Prim.Native.Nat.{◌/◌}
use mathlib.Core.Path.{sym, ◌∙◌, ap}
use native.Mathlib.Omega.{arith}
use Rattle.std.specs.Prelude.{Err}
use Rattle.std.proofs.Common.{length}
use Rattle.std.proofs.lemmas.Result.{err_from_is_err_and}
use Rattle.guideline.proofs.CountLaws.{listed_fits}
use Rattle.guideline.specs.Bytes.{spelled}
use Rattle.guideline.specs.Check.{answer_length}
use Rattle.guideline.specs.Lent.{lent}
use Rattle.each_count.proofs.Lists.{answers_list, refused_list}
use Rattle.each_count.proofs.check_each_after.Goals as goal

pub returns-in_err-n : goal.returns-in_err-n
returns-in_err-n c =
    let a = c.args in
    let e = err_from_is_err_and c.from_residual.result c.from_residual.ensures.1 in
    let said = sym c.in_err-n.was ∙ c.count.ensures in
    (e.1 ∙ ap Err e.2 ∙ said, sym (refused_list (spelled (lent a.t)) a.e a.first a.last a.list.now _ (sym said)))

pub put_answers-requires : goal.put_answers-requires
put_answers-requires c =
    let a = c.args in
    let fit = listed_fits a.first a.last (length a.list.now / answer_length) c.in_ok-n.n (sym c.count.ensures ∙ c.in_ok-n.was) in
    (c.requires, omega (arith, fit.2), omega (arith, fit.3))

pub returns : goal.returns
returns c =
    let a = c.args in
    let said = sym c.in_ok-n.was ∙ c.count.ensures in
    (said, c.put_answers.ensures ∙ sym (answers_list (spelled (lent a.t)) a.e a.first a.last a.list.now c.in_ok-n.n (sym said)))
