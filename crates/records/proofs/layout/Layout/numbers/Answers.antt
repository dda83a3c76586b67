-- The first part without digits ends it; where each was read, the numbers stand in order.
use Prim.Native.Nat.{ℕ, ◌<◌}
use mathlib.Core.List.{List, ◌++◌, append_assoc, append-nil}
use mathlib.Core.Path.{sym, ap, ◌∙◌}
use native.Mathlib.Omega.{arith}
use lib.ListN.{length, take, length-set}
use lib.Seq.{take_all}
use Rattle.std.proofs.lemmas.List.{take_more_set}
use Rattle.std.proofs.lemmas.Result.{err_from_is_err_and}
use Rattle.records.specs.Layout.{said, every, digit_part}
use Rattle.records.proofs.Fields.{number_said, number_refused}
use Rattle.records.proofs.Walk.{within_turn, narrow_turn, every_turn, numbers_turn, none_left}
use Rattle.records.proofs.layout.Layout.numbers.Goals as goal

pub returns-in_err-numbers : goal.returns-in_err-numbers
returns-in_err-numbers g c =
    let p = err_from_is_err_and c.from_residual.result c.from_residual.ensures.1 in
    let e = number_refused _ _ _ (sym c.in_err-numbers.ensures) in
    rw (p.1, p.2, c.loop-i.invariant.3 ∙ every_turn _ _ _ c.loop-i-test.true digit_part _ _ e.0, e.1)

pub loop-i-preserved : goal.loop-i-preserved
loop-i-preserved g c =
    let e = number_said _ _ _ (sym c.in_ok-numbers.ensures) in (
      within_turn _ _ _ c.loop-i-test.true _ _ c.width.ensures c.loop-i.invariant.0,
      narrow_turn _ _ c.loop-i-test.true c.loop-i.invariant.1,
      simp length-set c.loop-i.invariant.2,
      rw c.width.ensures (c.loop-i.invariant.3 ∙ every_turn _ _ _ c.loop-i-test.true digit_part _ _ e.0),
      let here : c.loop-i.i < length c.loop-i.numbers = omega (arith, c.loop-i.invariant.2) in
          rw (take_more_set _ _ _ here, append_assoc _ _ _, c.width.ensures) (ap (λ (m : List ℕ). take c.loop-i.i c.loop-i.numbers ++ m) (sym (numbers_turn _ _ _ c.loop-i-test.true _ _ e.1)) ∙ c.loop-i.invariant.4),
    )

pub returns : goal.returns
unfolding every
returns g c =
    let none = none_left _ _ c.loop-i-test.false in
    let all = take_all c.loop-i.i c.loop-i.numbers (omega arith) in
    let numbers = rw (none, append-nil, all) at c.loop-i.invariant.4 in
    rw (rw none at c.loop-i.invariant.3) (ap said numbers)
