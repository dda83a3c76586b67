-- Where no row is left for which the measure matters, nothing is needed. Assumes nothing.
use mathlib.Core.Path.{◌∙◌}
use Rattle.filter.specs.declared.Filter.TheVariants.{Matters}
use Rattle.filter.specs.Filters.{filter643}
use Rattle.sieve.proofs.Kept.{first_tells}
use Rattle.sieve.proofs.settled.Settled.needed.Goals as goal

pub returns-then-is_none : goal.returns-then-is_none
returns-then-is_none c =
    let a = c.args in
    let tells = first_tells (record { rows = a.rows.now; settled = a.self.now }) (filter643 (Matters a.m)) c.first.result c.first.ensures in
    rw (tells ∙ c.is_none.ensures, c.if-is_none.true)

pub returns-in_default : goal.returns-in_default
returns-in_default c =
    let a = c.args in
    let tells = first_tells (record { rows = a.rows.now; settled = a.self.now }) (filter643 (Matters a.m)) c.first.result c.first.ensures in
    rw (tells ∙ c.is_none.ensures, c.if-is_none.false, c.in_default.is)

pub returns : goal.returns
returns c =
    let a = c.args in
    let tells = first_tells (record { rows = a.rows.now; settled = a.self.now }) (filter643 (Matters a.m)) c.first.result c.first.ensures in
    rw (tells ∙ c.is_none.ensures, c.if-is_none.false, c.in-Some.is)
