-- Assumes nothing.
use mathlib.Core.Path.{◌∙◌, sym}
use Rattle.quiet.proofs.rule.judge.Goals as goal

pub returns-then-passes : goal.returns-then-passes
returns-then-passes c = rw (sym c.passes.ensures ∙ c.if-passes.true) c.of_rule.ensures

pub returns : goal.returns
returns c = rw (sym c.passes.ensures ∙ c.if-passes.false)
