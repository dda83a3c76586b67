use Rattle.std.proofs.Common.{refl}
use Rattle.unit_list.specs.Turns.{more}
use Rattle.unit_list.proofs.read_piece.Goals as goal

pub returns-clause-ok : goal.returns-clause-ok
returns-clause-ok g c = more c.in_ok-n.n _ refl c.list_piece.ensures
