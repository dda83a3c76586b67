-- One fixed part that differs decides; where none does, each stands.
use mathlib.Core.Path.{sym, ◌∙◌}
use Rattle.records.specs.Layout.{every, fixed_part}
use Rattle.records.proofs.Walk.{within_turn, every_turn, none_left}
use Rattle.records.proofs.layout.Layout.is_fixed.Goals as goal

pub returns-then-not-is_fixed : goal.returns-then-not-is_fixed
returns-then-not-is_fixed g c = sym (c.loop-part.invariant.1 ∙ every_turn _ _ _ c.loop-part-test.true fixed_part _ _ c.if-not-is_fixed.ensures)

pub loop-part-preserved : goal.loop-part-preserved
loop-part-preserved g c = (
  within_turn _ _ _ c.loop-part-test.true _ _ c.width-at.ensures c.loop-part.invariant.0,
  rw c.width-at.ensures (c.loop-part.invariant.1 ∙ every_turn _ _ _ c.loop-part-test.true fixed_part _ _ c.if-not-is_fixed.ensures),
)

pub returns : goal.returns
unfolding every
returns g c = sym (rw (none_left _ _ c.loop-part-test.false) at c.loop-part.invariant.1)
