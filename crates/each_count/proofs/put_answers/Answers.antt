-- The answers of the counts that are passed stand in front, and all behind them is as it was. Assumes nothing.
use Prim.Native.Nat.{◌+◌}
use mathlib.Core.Path.{◌≡◌, refl}
use native.Mathlib.Omega.{arith}
use Rattle.guideline.specs.Bytes.{spelled}
use Rattle.guideline.specs.Check.{answer_length}
use Rattle.guideline.specs.Counts.{in_turn, single}
use Rattle.guideline.specs.Lent.{lent}
use Rattle.each_count.proofs.OneMore.{answered, one_more, all_answered}
use Rattle.each_count.proofs.put_answers.Goals as goal

pub loop-i-init : goal.loop-i-init
unfolding in_turn
loop-i-init c = refl

pub loop-i-preserved : goal.loop-i-preserved
loop-i-preserved c =
    let args = c.args in
    let i = c.loop-i.i in
    let t = spelled (lent args.t) in
    let asked = c.on_unless_given-asked.result in
    let said = answered t asked (args.first + i) c.with_count.ensures c.check_after-a.ensures c.numbers.ensures in
    one_more (λ k. single t asked (args.first + k)) answer_length (λ k. refl) args.list.now c.loop-i.list _ i (i + 1) refl (omega (arith, c.requires.1)) c.loop-i.invariant (rw said at c.put_numbers.ensures)

pub returns : goal.returns
returns c =
    let args = c.args in
    let i : c.loop-i.i ≡ args.n = omega arith in
    all_answered (spelled (lent args.t)) args.e args.first args.n _ c.on_unless_given-asked.ensures (rw i at c.loop-i.invariant)
