-- What is left of the input, in the room that is left, gives the whole run.
use mathlib.Core.Path.{refl, sym, ◌∙◌}
use native.Mathlib.Omega.{arith}
use borrow.Author.Tests.{leb-true, leb-false}
use Rattle.unit_lines.proofs.Ends.{end_is, found_inside, no_end}
use Rattle.unit_lines.proofs.Longest.{longest}
use Rattle.unit_lines.proofs.Whole.{rest_on, rest_none, rest_full, put_inside, put_length}
use Rattle.unit_lines.proofs.machine.list_whole.Goals as goal

pub returns-in_default : goal.returns-in_default
returns-in_default c =
    rest_none _ _ _ _ _ (no_end _ _ _ c.loop-e.invariant.0 (sym c.find_end.ensures ∙ c.in_default.is)) (leb-true _ _ (sym c.has_room.ensures ∙ c.loop-e-test.true))
    c.loop-e.invariant.3 c.loop-e.invariant.0 refl c.loop-e.invariant.1

pub overflow_sub-e : goal.overflow_sub-e
overflow_sub-e c = omega (arith, found_inside _ _ _ c.loop-e.invariant.0 (sym c.find_end.ensures ∙ c.in-Some.is))

pub slice_bounds-list_text-count : goal.slice_bounds-list_text-count
slice_bounds-list_text-count c = omega (arith, found_inside _ _ _ c.loop-e.invariant.0 (sym c.find_end.ensures ∙ c.in-Some.is))

pub slice_bounds-list_text-start : goal.slice_bounds-list_text-start
slice_bounds-list_text-start c = omega (arith, found_inside _ _ _ c.loop-e.invariant.0 (sym c.find_end.ensures ∙ c.in-Some.is))

pub loop-e-preserved : goal.loop-e-preserved
loop-e-preserved c =
    let some = sym c.find_end.ensures ∙ c.in-Some.is in
    let f = found_inside _ _ _ c.loop-e.invariant.0 some in
    let r = leb-true _ _ (sym c.has_room.ensures ∙ c.loop-e-test.true) in
    let p = c.list_text-end.ensures in
    (omega (arith, f.1), omega (arith, put_inside p (longest _) r), put_length p ∙ c.loop-e.invariant.2, rest_on _ _ _ _ _ (end_is _ _ _ _ some).0 r c.loop-e.invariant.3 _ _ f.1 p)

pub returns : goal.returns
returns c =
    rest_full _ _ _ _ c.loop-e.invariant.3 (leb-false _ _ (sym c.has_room.ensures ∙ c.loop-e-test.false)) c.loop-e.invariant.0 c.loop-e.invariant.1
