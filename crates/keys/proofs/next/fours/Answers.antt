-- No row of the fours that the loop has passed has the key. Assumes nothing.
use Prim.Native.Nat.{◌+◌}
use native.Mathlib.Omega.{arith}
use Rattle.keys.specs.Keys.{key_of}
use Rattle.keys.proofs.Without.{without_four, without_both}
use Rattle.keys.proofs.next.fours.Goals as goal

pub loop-i-preserved : goal.loop-i-preserved
loop-i-preserved c =
    let a = c.args in
    let f = key_of a.t.now a.v a.k in
    let i = c.loop-i.i in
    (omega arith, omega arith, without_both f a.key a.from i (i + 4) c.loop-i.invariant.2 (without_four f a.key i (rw (← c.in_four.ensures) c.if-in_four.false)))
