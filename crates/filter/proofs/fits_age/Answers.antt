-- Assumes nothing.
use Rattle.guideline.specs.Steps.{age_fits}
use Rattle.filter.proofs.fits_age.Goals as goal

pub returns : goal.returns
unfolding age_fits
returns c = rw (c.fit.ensures, c.age_bounds.ensures)
