-- The loop has found no row out of range among those that it has passed. Assumes nothing.
use Rattle.ranges.specs.Soundly.{InRangeBy}
use Rattle.ranges.proofs.rows.rest_in_range.Given as goal

abbrev pub invariant-loop-i : goal.invariant-loop-i
invariant-loop-i g l = InRangeBy g.R.Ranged.sound g.R.TableRow.read l.t l.v l.i
