-- The two halves make the number of the definition. Assumes nothing.
use native.Mathlib.Omega.{arith}
use Rattle.numbers.specs.Words.{long}
use Rattle.numbers.proofs.long.Goals as goal

pub returns : goal.returns
unfolding long
returns c = omega arith
