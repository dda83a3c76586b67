-- The machine has heard what was read so far, and nothing else. Assumes nothing.
use Rattle.unit_list.specs.Turns.{Heard}
use Rattle.unit_list.proofs.list_all.Given as goal

abbrev pub invariant-loop : goal.invariant-loop
invariant-loop g l = Heard l.machine
