-- What is moved so far stands in front, and the rest is as it was. Assumes nothing.
use mathlib.Core.Path.{refl}
use native.Mathlib.Omega.{arith}
use Rattle.call_stream.proofs.Moving.{move_turn}
use Rattle.call_stream.proofs.to_front.Goals as goal

pub loop-i-preserved : goal.loop-i-preserved
loop-i-preserved c = move_turn _ _ c.args.from c.loop-i.i (omega arith) c.loop-i.invariant _ _ refl refl
