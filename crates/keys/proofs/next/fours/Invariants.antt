-- No row of the fours that the loop has passed has the key. Assumes nothing.
use Prim.Native.Nat.{◌-◌, ◌≤◌}
use Rattle.keys.specs.Keys.{key_of, Without}
use Rattle.keys.proofs.next.fours.Given as goal

abbrev pub invariant-loop-i : goal.invariant-loop-i
invariant-loop-i l = (l.from ≤ l.i) × (l.i ≤ l.rows) × Without (key_of l.t l.v l.k) l.key l.from l.i

abbrev pub decreases-loop-i : goal.decreases-loop-i
decreases-loop-i l = l.rows - l.i
