-- The place of number k. Assumes nothing.
use Rattle.stream.specs.Entries.{number}
use Rattle.stream.proofs.number.Goals as goal

pub returns : goal.returns
unfolding number
returns c = c.word.ensures
