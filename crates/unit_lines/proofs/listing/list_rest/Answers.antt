-- There is room, so that what `finish` answers says what was written.
use mathlib.Core.Path.{sym, ap, ◌∙◌}
use native.Mathlib.Omega.{arith}
use Rattle.unit_lines.specs.Listing.{written_by}
use Rattle.unit_lines.proofs.Finishing.{room_enough}
use Rattle.unit_lines.proofs.Pieces.{rests}
use Rattle.unit_lines.proofs.listing.list_rest.Goals as goal

pub unwrap-requires : goal.unwrap-requires
unwrap-requires c = rw c.finish.ensures.result (room_enough _ _ (omega arith))

pub returns : goal.returns
returns c = rests c.requires c.finish.ensures _ (c.unwrap_or.ensures ∙ sym (ap written_by c.unwrap.ensures))
