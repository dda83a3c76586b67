-- A part stored, and those behind it.
use mathlib.Core.Path.{sym, ◌∙◌}
use native.Mathlib.Omega.{arith}
use Rattle.records.specs.Layout.{spell}
use Rattle.records.proofs.Walk.{within_turn, sets_turn, none_left}
use Rattle.records.proofs.layout.Layout.put.Goals as goal

pub loop-i-preserved : goal.loop-i-preserved
loop-i-preserved g c = (
  omega (arith, c.put.auto.buf),
  within_turn _ _ _ c.loop-i-test.true _ _ c.width-at.ensures (omega (arith, c.put.auto.buf)),
  rw (c.width-at.ensures, c.put.ensures) (sym (sets_turn _ _ _ c.loop-i-test.true _ _ _) ∙ c.loop-i.invariant.2),
)

pub returns : goal.returns
unfolding spell
returns g c = rw (none_left _ _ c.loop-i-test.false) at c.loop-i.invariant.2
