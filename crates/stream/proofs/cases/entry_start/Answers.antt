-- Behind the tables, and behind the entries before it. Assumes nothing.
use mathlib.Core.Path.{refl}
use native.Mathlib.Omega.{arith}
use Rattle.stream.specs.Cases.{entry_start}
use Rattle.stream.proofs.cases.entry_start.Goals as goal

pub overflow_mul-result : goal.overflow_mul-result
unfolding entry_start
overflow_mul-result c = rw c.entry_size.ensures (omega arith)

pub overflow_add-result : goal.overflow_add-result
unfolding entry_start
overflow_add-result c = rw c.entry_size.ensures (omega arith)

pub returns : goal.returns
unfolding entry_start
returns c = rw (c.entry_size.ensures, c.start.ensures.0) refl
