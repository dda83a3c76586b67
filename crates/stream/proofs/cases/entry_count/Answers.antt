-- The last number in front. Assumes nothing.
use borrow.Author.Rules.{rules}
use Rattle.stream.specs.Cases.{entry_count}
use Rattle.stream.proofs.cases.entry_count.Goals as goal

pub returns : goal.returns
unfolding entry_count
returns c = (c.number.ensures, search rules)
