-- What is gathered and the lines end inside their buffers. Assumes nothing.
use Rattle.std.proofs.Common.{length}
use Rattle.std.specs.declared.ops.ControlFlow.TheVariants.{Continue}
use Rattle.record_calls.specs.Inside.{Inside}
use Rattle.record_calls.proofs.answer_all.Given as goal

abbrev pub invariant-loop : goal.invariant-loop
invariant-loop g l = Inside (length l.input) (length l.out) (Continue l.gathered)
