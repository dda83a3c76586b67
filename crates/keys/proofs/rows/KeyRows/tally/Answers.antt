-- The loop has tallied the rows of the key that it has passed and that the test lets pass. Assumes nothing.
use native.Mathlib.Omega.{arith}
use mathlib.Core.Path.{sym, ◌∙◌, ap}
use Rattle.cells.proofs.Tallied.{tallying_none}
use Rattle.keys.proofs.Visits.{hit_tallied, miss_tallied, all_tallied}
use Rattle.keys.proofs.rows.KeyRows.tally.Goals as goal

pub loop-here-init : goal.loop-here-init
loop-here-init g c = (omega arith, omega arith, λ some. omega arith, λ p tests. tallying_none _ _)

pub loop-here-preserved-then-test : goal.loop-here-preserved-then-test
loop-here-preserved-then-test g c =
    let a = c.args in
    (omega (arith, c.in-Some.ensures.1), omega (arith, c.in-Some.ensures.0), λ some. omega arith, λ p tests. hit_tallied a.self.now _ (λ k f. rw c.KEY.ensures (g.met.R.TableRow.keyed_read k f)) p (c.loop-here.invariant.3 p tests) c.in-Some.ensures (sym (tests _ _ c.test.ensures ∙ ap p c.row.ensures) ∙ c.if-test.true))

pub loop-here-preserved : goal.loop-here-preserved
loop-here-preserved g c =
    let a = c.args in
    (omega (arith, c.in-Some.ensures.1), omega (arith, c.in-Some.ensures.0), λ some. omega (arith, c.in-Some.ensures.0, c.loop-here.invariant.2 some), λ p tests. miss_tallied a.self.now _ (λ k f. rw c.KEY.ensures (g.met.R.TableRow.keyed_read k f)) p (c.loop-here.invariant.3 p tests) c.in-Some.ensures (sym (tests _ _ c.test.ensures ∙ ap p c.row.ensures) ∙ c.if-test.false))

pub returns-clause-tally : goal.returns-clause-tally
returns-clause-tally g c p tests =
    let a = c.args in
    all_tallied a.self.now _ (λ k f. rw c.KEY.ensures (g.met.R.TableRow.keyed_read k f)) p (c.loop-here.invariant.3 p tests) c.in_default.ensures
