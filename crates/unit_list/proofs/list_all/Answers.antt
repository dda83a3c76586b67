use Rattle.unit_list.proofs.Turned.{heard_nothing, turn_heard}
use Rattle.unit_list.proofs.list_all.Goals as goal

pub loop-init : goal.loop-init
loop-init g c = heard_nothing c.new_machine-machine.ensures

pub loop-preserved : goal.loop-preserved
loop-preserved g c = turn_heard c.loop.invariant c.in_ok-piece.ensures.ok c.in-Some.is
