-- No row that the loop has passed, from the end on, has the key. Assumes nothing.
use Rattle.keys.specs.Keys.{key_of, Without}
use Rattle.keys.proofs.stretch.end.Given as goal

abbrev pub invariant-loop-i : goal.invariant-loop-i
invariant-loop-i l = Without (key_of l.t l.v l.k) l.key l.i l.v.rows
