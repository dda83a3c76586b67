-- Each turn adds the length of one table, of 32 bits. Assumes nothing.
use mathlib.Core.Path.{refl}
use native.Mathlib.Omega.{arith}
use native.Mathlib.Numerals.{add-one}
use Rattle.stream.specs.Cases.{start}
use Rattle.stream.proofs.Inside.{start_next}
use Rattle.stream.proofs.cases.start.Goals as goal

pub loop-i-init : goal.loop-i-init
unfolding start
loop-i-init c = (refl, omega arith)

pub loop-i-preserved : goal.loop-i-preserved
loop-i-preserved c = (rw (add-one c.loop-i.i) (omega (arith, start_next c.args.case.now c.loop-i.i)), omega arith)
