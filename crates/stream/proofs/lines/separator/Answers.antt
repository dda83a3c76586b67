-- Where numbers are left, the first of them stands at the place. Assumes nothing.
use native.Mathlib.Omega.{arith}
use lib.Seq.{drop-cons}
use Rattle.stream.proofs.lines.separator.Goals as goal

pub returns-then-i-numbers : goal.returns-then-i-numbers
returns-then-i-numbers c = rw (drop-cons c.args.numbers.now c.args.i 0 (omega arith))
