-- Each way out is the one that the plan takes. Assumes nothing.
use Rattle.guideline.specs.Forms.{refuse, one, choose}
use Rattle.tables.proofs.FoundTold.{found_told}
use Rattle.tables.proofs.found.Found.one.Goals as goal

pub returns-in-Nothing : goal.returns-in-Nothing
unfolding refuse one choose
returns-in-Nothing g c h e d = rw (found_told h e c.in-Nothing.is)

pub returns-in-One : goal.returns-in-One
unfolding refuse one choose
returns-in-One g c h e d = rw (found_told h e c.in-One.is)

pub returns-in-Many : goal.returns-in-Many
unfolding refuse one choose
returns-in-Many g c h e d = rw (found_told h e c.in-Many.is)
