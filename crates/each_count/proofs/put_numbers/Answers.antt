-- Each turn stores one number more. Assumes nothing.
use lib.ListN.{length-set}
use lib.Seq.{take_all}
use Rattle.decimals.proofs.Puts.{sets_next}
use Rattle.each_count.proofs.put_numbers.Goals as goal

pub loop-i-preserved : goal.loop-i-preserved
loop-i-preserved c = (simp length-set c.loop-i.invariant.0, rw c.loop-i.invariant.1 (sets_next _ _ _ _ c.loop-i-test.true))

pub returns : goal.returns
returns c = rw (take_all c.loop-i.i c.args.numbers.now c.loop-i-test.false) at c.loop-i.invariant.1
