use mathlib.Core.Path.{sym, ◌∙◌}
use native.Mathlib.Omega.{arith}
use borrow.Author.Tests.{leb-true, leb-false, eqb-true, eqb-false}
use Rattle.unit_lines.proofs.Finishing.{finish_none, finish_full, finish_line}
use Rattle.unit_lines.proofs.machine.finish.Goals as goal

pub returns-then-is_empty : goal.returns-then-is_empty
returns-then-is_empty c = finish_none c.args.m _ _ (rw c.text-text.ensures at (eqb-true _ _ (sym c.is_empty.ensures ∙ c.if-is_empty.true)))

pub returns-then-not-has_room : goal.returns-then-not-has_room
returns-then-not-has_room c =
    let some = rw c.text-text.ensures at (eqb-false _ _ (sym c.is_empty.ensures ∙ c.if-is_empty.false)) in
    finish_full c.args.m _ _ (leb-false _ _ (sym c.has_room.ensures ∙ c.if-not-has_room.true)) (omega arith)

pub returns : goal.returns
returns c =
    let some = rw c.text-text.ensures at (eqb-false _ _ (sym c.is_empty.ensures ∙ c.if-is_empty.false)) in
    finish_line c.args.m _ _ _ _ (leb-true _ _ (sym c.has_room.ensures ∙ c.if-not-has_room.false)) (omega arith) (rw c.text-text.ensures at c.list_text.ensures)
