use Rattle.unit_list.proofs.Turned.{ends_complete}
use Rattle.unit_list.proofs.list_end.Goals as goal

pub returns-in-Some : goal.returns-in-Some
returns-in-Some c = ends_complete c.in-Some.is c.list_rest.ensures
