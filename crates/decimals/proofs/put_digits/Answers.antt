-- The last digit, and then those before it.
use mathlib.Core.Path.{sym, ◌∙◌}
use native.Mathlib.Omega.{arith}
use lib.ListN.{length-set}
use Rattle.decimals.proofs.Puts.{digits_turn, digits_none}
use Rattle.decimals.proofs.put_digits.Goals as goal

pub loop-place-preserved : goal.loop-place-preserved
loop-place-preserved c = (omega arith, simp length-set c.loop-place.invariant.1, sym (digits_turn _ _ _ _ c.loop-place-test.true) ∙ c.loop-place.invariant.2)

pub returns : goal.returns
returns c = sym (digits_none _ _ _ _ c.loop-place-test.false) ∙ c.loop-place.invariant.2
