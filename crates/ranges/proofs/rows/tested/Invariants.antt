-- The loop has found no row out of range among those that it has passed, and their keys rise. Assumes nothing.
use mathlib.Core.Path.{◌≡◌}
use mathlib.Core.Bool.{true}
use Rattle.keys.specs.Keys.{key_of}
use Rattle.keys.specs.Rising.{rises, key_before}
use Rattle.ranges.specs.Soundly.{InRangeBy}
use Rattle.ranges.proofs.rows.tested.Given as goal

abbrev pub invariant-loop-i : goal.invariant-loop-i
invariant-loop-i g l =
    InRangeBy g.R.Ranged.sound g.R.TableRow.read l.t l.v l.i
    × (rises (key_of l.t l.v g.R.TableRow.KEY) l.i ≡ true)
    × (l.last ≡ key_before (key_of l.t l.v g.R.TableRow.KEY) l.i)
