use mathlib.Core.Path.{refl}
use Rattle.unit_lines.specs.Machine.{keep, shrunk}
use Rattle.unit_lines.proofs.text.ListMachine.empty.Goals as goal

pub returns : goal.returns
unfolding keep shrunk
returns c = refl
