-- Each way out is the one that step 3's plan takes. Assumes nothing.
use native.Mathlib.Omega.{arith}
use borrow.Author.Tests.{lt-ltb}
use Rattle.guideline.specs.Ask.{◌>>=◌, ◌>>◌}
use Rattle.guideline.specs.Forms.{demand, when, refuse}
use Rattle.guideline.specs.Steps.{product}
use Rattle.selection.proofs.product.product.Goals as goal

pub returns-then-gpk-eq-NO_GPK : goal.returns-then-gpk-eq-NO_GPK
unfolding product demand when refuse ◌>>◌ ◌>>=◌
returns-then-gpk-eq-NO_GPK c d = simp c.if-gpk-eq-NO_GPK.true

pub returns : goal.returns
unfolding product demand when refuse ◌>>◌ ◌>>=◌
returns c d = rw (lt-ltb 0 c.args.gpk (omega arith)) (c.one.ensures _ c.look_up.ensures d)
