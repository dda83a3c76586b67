use mathlib.Core.Path.{refl}
use lib.ListN.{length-set}
use lib.Seq.{take_all}
use Rattle.decimals.proofs.Puts.{sets_next}
use Rattle.decimals.proofs.put_text.Goals as goal

pub loop-i-preserved : goal.loop-i-preserved
loop-i-preserved c = (simp length-set c.loop-i.invariant.0, rw c.loop-i.invariant.1 (sets_next _ _ _ _ c.loop-i-test.true))

pub returns : goal.returns
returns c = record { bytes = rw (take_all c.loop-i.i c.args.text.now c.loop-i-test.false) at c.loop-i.invariant.1; place = refl }
