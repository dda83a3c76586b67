-- The loop keeps the tally of the rows that it has passed; the rows between have another key. Assumes nothing.
use Prim.Native.Nat.{◌-◌}
use Rattle.cells.specs.Tally.{Tallying}
use Rattle.keys.specs.Keys.{key_of, has_key}
use Rattle.keys.proofs.keyed.keyed.Given as goal

abbrev pub invariant-loop-here : goal.invariant-loop-here
invariant-loop-here l =
    Tallying (has_key (key_of l.t l.v l.k) l.key) l.v.rows l.from l.count l.last

abbrev pub decreases-loop-here : goal.decreases-loop-here
decreases-loop-here l = l.v.rows - l.from
