-- One pass that tests and adds up.
use mathlib.Core.Path.{sym, ◌∙◌}
use borrow.Author.Rules.{rules}
use native.Mathlib.Omega.{arith}
use Rattle.records.proofs.Chars.{chars_part}
use Rattle.records.proofs.Numbers.{from_zero, from_digit, from_other, from_end, pow_more, pow_most}
use Rattle.records.proofs.parts.number_at.Goals as goal

pub loop-d-init : goal.loop-d-init
loop-d-init c = (omega arith, from_zero _, omega arith)

pub returns-then-not-is_ascii_digit : goal.returns-then-not-is_ascii_digit
returns-then-not-is_ascii_digit c = rw (← chars_part c.args.s.now c.args.at c.args.width) (sym (c.loop-d.invariant.1 ∙ from_other _ _ _ c.loop-d-test.true c.if-not-is_ascii_digit.ensures.value))

pub overflow_mul-n : goal.overflow_mul-n
overflow_mul-n c = omega (arith, pow_most c.loop-d.d-index c.loop-d.invariant.0)

pub overflow_add-n : goal.overflow_add-n
overflow_add-n c = omega (arith, pow_most c.loop-d.d-index c.loop-d.invariant.0, c.if-not-is_ascii_digit.ensures.cases)

pub loop-d-preserved : goal.loop-d-preserved
loop-d-preserved c = (
  search rules,
  c.loop-d.invariant.1 ∙ from_digit _ _ _ c.loop-d-test.true c.if-not-is_ascii_digit.ensures.value,
  omega (arith, pow_more c.loop-d.d-index, c.if-not-is_ascii_digit.ensures.cases),
)

pub returns : goal.returns
returns c = rw (← chars_part c.args.s.now c.args.at c.args.width) (sym (c.loop-d.invariant.1 ∙ from_end _ _ _ c.loop-d-test.false))
