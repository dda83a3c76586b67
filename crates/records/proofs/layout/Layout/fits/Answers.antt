-- One part that does not fit decides; where each does, all fit.
use mathlib.Core.Path.{sym, ◌∙◌}
use Rattle.records.specs.Layout.{fits}
use Rattle.records.proofs.Walk.{narrow_turn, fits_turn, none_left}
use Rattle.records.proofs.layout.Layout.fits.Goals as goal

pub returns-then-not-fits : goal.returns-then-not-fits
returns-then-not-fits g c = sym (c.loop-i.invariant.1 ∙ fits_turn _ _ _ c.loop-i-test.true _ c.if-not-fits.ensures)

pub loop-i-preserved : goal.loop-i-preserved
loop-i-preserved g c = (narrow_turn _ _ c.loop-i-test.true c.loop-i.invariant.0, c.loop-i.invariant.1 ∙ fits_turn _ _ _ c.loop-i-test.true _ c.if-not-fits.ensures)

pub returns : goal.returns
unfolding fits
returns g c = sym (rw (none_left _ _ c.loop-i-test.false) at c.loop-i.invariant.1)
