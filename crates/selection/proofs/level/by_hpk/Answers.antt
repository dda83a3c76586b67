-- Each way out is the one that the plan takes. Assumes nothing.
use mathlib.Core.Path.{sym, ◌∙◌}
use borrow.Author.Rules.{rules}
use Rattle.std.proofs.lemmas.Result.{err_from_is_err_and}
use Rattle.guideline.specs.Ask.{◌>>=◌}
use Rattle.guideline.specs.Entries.{datum}
use Rattle.guideline.specs.Forms.{when, ask, choose, refuse}
use Rattle.guideline.specs.Steps.{hpk_level, by_hpk}
use Rattle.keys.specs.Rows.{key_rows}
use Rattle.tables.specs.Tests.{of_hpk}
use Rattle.tables.proofs.FoundTold.{found_told}
use Rattle.selection.proofs.Asked.{given_in, blank_in}
use Rattle.selection.proofs.Given.{hpk_given}
use Rattle.selection.proofs.level.by_hpk.Goals as goal

pub returns-then-not-any : goal.returns-then-not-any
unfolding by_hpk when ask ◌>>=◌
returns-then-not-any c =
    rw (sym (c.any.ensures hpk_level (λ row b post. search rules)) ∙ c.if-not-any.true) c.by_prk.ensures

pub returns-in_err-hpk : goal.returns-in_err-hpk
unfolding by_hpk when ask ◌>>=◌
returns-in_err-hpk c =
    let e = err_from_is_err_and c.from_residual.result c.from_residual.ensures.1 in
    let blank = blank_in c.args.d.hpk _ c.ok_or.ensures.value c.in_err-hpk.was in
    rw (e.1, e.2, blank.1, sym (c.any.ensures hpk_level (λ row b post. search rules)) ∙ c.if-not-any.false, blank.0)

pub returns-in-Nothing : goal.returns-in-Nothing
unfolding choose refuse
returns-in-Nothing c =
    let some_row = sym (c.any.ensures hpk_level (λ row b post. search rules)) ∙ c.if-not-any.false in
    let given = given_in c.args.d.hpk _ c.ok_or.ensures.value c.in_ok-hpk.was in
    let hits = found_told (key_rows c.args.rows.now (of_hpk c.in_ok-hpk.hpk)) (c.ask.ensures (of_hpk c.in_ok-hpk.hpk) (λ row b post. search rules)) c.in-Nothing.is in
    rw (hpk_given (key_rows c.args.rows.now) (datum c.args.d) some_row given hits) c.by_prk-in-Nothing.ensures

pub returns-in-One : goal.returns-in-One
unfolding choose refuse
returns-in-One c =
    let some_row = sym (c.any.ensures hpk_level (λ row b post. search rules)) ∙ c.if-not-any.false in
    let given = given_in c.args.d.hpk _ c.ok_or.ensures.value c.in_ok-hpk.was in
    let hits = found_told (key_rows c.args.rows.now (of_hpk c.in_ok-hpk.hpk)) (c.ask.ensures (of_hpk c.in_ok-hpk.hpk) (λ row b post. search rules)) c.in-One.is in
    rw (hpk_given (key_rows c.args.rows.now) (datum c.args.d) some_row given hits)

pub returns-in-Many : goal.returns-in-Many
unfolding choose refuse
returns-in-Many c =
    let some_row = sym (c.any.ensures hpk_level (λ row b post. search rules)) ∙ c.if-not-any.false in
    let given = given_in c.args.d.hpk _ c.ok_or.ensures.value c.in_ok-hpk.was in
    let hits = found_told (key_rows c.args.rows.now (of_hpk c.in_ok-hpk.hpk)) (c.ask.ensures (of_hpk c.in_ok-hpk.hpk) (λ row b post. search rules)) c.in-Many.is in
    rw (hpk_given (key_rows c.args.rows.now) (datum c.args.d) some_row given hits)
