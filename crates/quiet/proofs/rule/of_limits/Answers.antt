-- A norm minimum bars. Assumes nothing.
use borrow.Author.Tests.{eq-eqb, ne_eqb}
use Rattle.guideline.specs.Values.{no_limit}
use Rattle.quiet.proofs.rule.of_limits.Goals as goal

pub returns-then-m-eq-NO_LIMIT : goal.returns-then-m-eq-NO_LIMIT
returns-then-m-eq-NO_LIMIT c =
    let a = c.args in
    rw (eq-eqb a.m.normminimum no_limit c.if-m-eq-NO_LIMIT.true, c.allows_more.ensures)

pub returns : goal.returns
returns c =
    let a = c.args in
    rw (ne_eqb a.m.normminimum no_limit c.if-m-eq-NO_LIMIT.false)
