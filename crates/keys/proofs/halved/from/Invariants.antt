-- The rows below a are below the bound, those from b on are not. Assumes nothing.
use Prim.Native.Nat.{◌-◌}
use Rattle.keys.specs.Keys.{key_of}
use Rattle.keys.specs.Rising.{Between}
use Rattle.keys.proofs.halved.from.Given as goal

abbrev pub invariant-loop-b : goal.invariant-loop-b
invariant-loop-b l = Between (key_of l.t l.v l.k) l.v.rows l.low l.a l.b

abbrev pub decreases-loop-b : goal.decreases-loop-b
decreases-loop-b l = l.b - l.a
