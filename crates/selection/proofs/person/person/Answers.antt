-- Each way out is the one that step 4's plan takes. Assumes nothing.
use Rattle.std.proofs.lemmas.Result.{err_from_is_err_and}
use borrow.Author.Tests.{eq-eqb, ne_eqb}
use Rattle.guideline.specs.Ask.{◌>>=◌, ◌>>◌}
use Rattle.guideline.specs.Forms.{ask, when, demand, refuse}
use Rattle.guideline.specs.Results.{answered}
use Rattle.guideline.specs.Steps.{person}
use Rattle.selection.proofs.Asked.{given_in, blank_in}
use Rattle.selection.proofs.person.person.Goals as goal

pub returns-in_err-age : goal.returns-in_err-age
unfolding person ask when demand refuse ◌>>=◌ ◌>>◌
returns-in_err-age c =
    let e = err_from_is_err_and c.from_residual.result c.from_residual.ensures.1 in
    let blank = blank_in c.args.d.age _ c.ok_or.ensures.value c.in_err-age.was in
    rw (e.1, e.2, blank.1, blank.0)

pub returns-then-p-eq-BOTH : goal.returns-then-p-eq-BOTH
unfolding person ask when demand refuse ◌>>=◌ ◌>>◌
returns-then-p-eq-BOTH c =
    let age = given_in c.args.d.age _ c.ok_or.ensures.value c.in_ok-age.was in
    simp (age, eq-eqb _ _ c.if-p-eq-BOTH.true)

pub returns-in_err-sex : goal.returns-in_err-sex
unfolding person ask when demand refuse ◌>>=◌ ◌>>◌
returns-in_err-sex c =
    let e = err_from_is_err_and c.from_residual-in_err-sex.result c.from_residual-in_err-sex.ensures.1 in
    let age = given_in c.args.d.age _ c.ok_or.ensures.value c.in_ok-age.was in
    let blank = blank_in c.args.d.sex _ c.ok_or-2.ensures.value c.in_err-sex.was in
    rw (e.1, e.2, blank.1) (simp (age, ne_eqb _ _ c.if-p-eq-BOTH.false, blank.0))

pub returns-then-sex-p : goal.returns-then-sex-p
unfolding person ask when demand refuse ◌>>=◌ ◌>>◌
returns-then-sex-p c =
    let age = given_in c.args.d.age _ c.ok_or.ensures.value c.in_ok-age.was in
    let sex = given_in c.args.d.sex _ c.ok_or-2.ensures.value c.in_ok-sex.was in
    simp (age, ne_eqb _ _ c.if-p-eq-BOTH.false, sex) (rw (ne_eqb _ _ c.if-sex-p.true, answered))

pub returns : goal.returns
unfolding person ask when demand refuse ◌>>=◌ ◌>>◌
returns c =
    let age = given_in c.args.d.age _ c.ok_or.ensures.value c.in_ok-age.was in
    let sex = given_in c.args.d.sex _ c.ok_or-2.ensures.value c.in_ok-sex.was in
    simp (age, ne_eqb _ _ c.if-p-eq-BOTH.false, sex) (rw (eq-eqb _ _ c.if-sex-p.false, answered))
