-- Nothing is left, or something. Assumes nothing.
use native.Mathlib.Omega.{arith}
use borrow.Author.Tests.{eqb-true, eqb-false}
use mathlib.Core.Path.{refl, sym, ◌∙◌}
use Rattle.call_stream.specs.Lines.{broken_line}
use Rattle.call_stream.proofs.Ending.{last_none, last_some}
use Rattle.call_stream.proofs.finish.Goals as goal

pub returns-then-is_empty : goal.returns-then-is_empty
returns-then-is_empty c = (last_none _ _ _ (eqb-true _ _ (sym c.is_empty.ensures ∙ c.if-is_empty.true)), omega arith)

pub returns : goal.returns
unfolding broken_line
returns c = (last_some _ _ _ _ _ _ (eqb-false _ _ (sym c.is_empty.ensures ∙ c.if-is_empty.false)) c.put_text.ensures refl, omega (arith, c.put_text.ensures.place))
