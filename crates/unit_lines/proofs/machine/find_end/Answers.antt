-- What is left of the input gives the same end.
use mathlib.Core.Path.{sym, ◌∙◌}
use native.Mathlib.Omega.{arith}
use Rattle.unit_lines.proofs.Ends.{end_found, end_later, end_over, some_end, none_end}
use Rattle.unit_lines.proofs.machine.find_end.Goals as goal

pub returns-then-ends : goal.returns-then-ends
returns-then-ends c =
    let e = end_found c.loop-i.last c.args.input.now c.loop-i.i c.loop-i-test.true (sym c.ends.ensures ∙ c.if-ends.true) in
    some_end _ _ _ _ c.loop-i-test.true (omega (arith, c.loop-i.invariant))

pub loop-i-preserved : goal.loop-i-preserved
loop-i-preserved c =
    end_later c.loop-i.last c.args.input.now c.loop-i.i c.loop-i-test.true (sym c.ends.ensures ∙ c.if-ends.false) ∙ c.loop-i.invariant

pub returns : goal.returns
returns c =
    let e = end_over c.loop-i.last c.args.input.now c.loop-i.i c.loop-i-test.false in
    none_end _ _ _ (omega (arith, c.loop-i.invariant))
