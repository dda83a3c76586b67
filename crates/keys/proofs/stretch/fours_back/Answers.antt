-- No row of the fours that the loop has passed, from the end on, has the key. Assumes nothing.
use Prim.Native.Nat.{◌+◌, ◌-◌}
use native.Mathlib.Omega.{arith}
use Rattle.keys.specs.Keys.{key_of}
use Rattle.keys.proofs.Without.{without_four, without_both}
use Rattle.keys.proofs.stretch.fours_back.Goals as goal

pub loop-i-preserved : goal.loop-i-preserved
loop-i-preserved c =
    let a = c.args in
    let f = key_of a.t.now a.v a.k in
    let i = c.loop-i.i in
    let four = without_four f a.key (i - 4) (rw (← c.in_four.ensures) c.if-in_four.false) in
    (omega arith, omega arith, without_both f a.key (i - 4) (i - 4 + 4) a.v.rows four (λ j above. c.loop-i.invariant.2 j (omega arith)))
