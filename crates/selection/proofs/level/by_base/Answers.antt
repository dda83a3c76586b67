-- The one row of the base level. Assumes nothing.
use borrow.Author.Rules.{rules}
use Rattle.guideline.specs.Steps.{base_level, by_base}
use Rattle.selection.proofs.level.by_base.Goals as goal

pub returns : goal.returns
unfolding by_base
returns c = c.one.ensures _ (c.ask.ensures base_level (λ row b post. search rules))
