-- The loop keeps the tally of the rows that it has passed; the rows between have another key. Assumes nothing.
use native.Mathlib.Omega.{arith}
use borrow.Author.Tests.{eq-eqb, ne_eqb}
use Rattle.cells.proofs.Tallied.{tallying_none, tallying_hit, tallying_skip, tallying_all}
use Rattle.keys.specs.Keys.{key_of, has_key}
use Rattle.keys.proofs.keyed.keyed.Goals as goal

pub loop-here-init : goal.loop-here-init
loop-here-init c = tallying_none _ _

pub loop-here-preserved : goal.loop-here-preserved
loop-here-preserved c =
    let a = c.args in
    let h = has_key (key_of a.t.now a.v a.k) a.key in
    let n = c.in-Some.ensures in
    tallying_hit h (tallying_skip h c.in-Some.here c.loop-here.invariant n.0 (omega (arith, n.1)) (λ m above below. ne_eqb _ _ (n.2 m above below))) n.1 (eq-eqb _ _ n.3)

pub returns : goal.returns
returns c =
    let a = c.args in
    let h = has_key (key_of a.t.now a.v a.k) a.key in
    let k = c.loop-here.invariant in
    tallying_all h (tallying_skip h a.v.rows k k.0 (omega arith) (λ m above below. ne_eqb _ _ (c.in_default.ensures m above below))) (omega arith)
