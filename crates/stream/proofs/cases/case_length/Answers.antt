-- Behind the entries. Assumes nothing.
use mathlib.Core.Path.{refl}
use native.Mathlib.Omega.{arith}
use Rattle.stream.specs.Cases.{entry_start, case_length}
use Rattle.stream.proofs.Inside.{size_most}
use Rattle.stream.proofs.cases.case_length.Goals as goal

pub overflow_mul-result : goal.overflow_mul-result
overflow_mul-result c = rw c.entry_size.ensures (omega (arith, size_most c.args.form c.entry_count.result c.entry_count.ensures.1))

pub overflow_add-result : goal.overflow_add-result
overflow_add-result c = rw c.entry_size.ensures (omega (arith, c.start.ensures.1, size_most c.args.form c.entry_count.result c.entry_count.ensures.1))

pub returns : goal.returns
unfolding case_length entry_start
returns c = rw (c.entry_size.ensures, c.entry_count.ensures.0, c.start.ensures.0) refl
