-- The four bytes make the number of the definition. Assumes nothing.
use Rattle.numbers.specs.Words.{word}
use Rattle.numbers.proofs.word.Goals as goal

pub returns : goal.returns
unfolding word
returns c = c.from_le_bytes.ensures
