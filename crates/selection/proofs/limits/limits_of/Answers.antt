-- The one row of the rule. Assumes nothing.
use Rattle.guideline.specs.Steps.{limits_of}
use Rattle.selection.proofs.limits.limits_of.Goals as goal

pub returns : goal.returns
unfolding limits_of
returns c = c.one.ensures _ c.look_up.ensures
