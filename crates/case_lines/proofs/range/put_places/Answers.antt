-- The lines of the places that are passed stand behind the place. Assumes nothing.
use Prim.Native.Nat.{◌+◌, ◌*◌, ◌-◌}
use borrow.Author.Rules.{rules}
use mathlib.Core.Path.{◌≡◌, refl, ◌∙◌}
use native.Mathlib.Omega.{arith}
use lib.ListN.{length, take, drop}
use Rattle.guideline.specs.Check.{answer_length}
use Rattle.guideline.specs.Counts.{in_turn, numbers_at}
use Rattle.stream.specs.Lines.{line}
use Rattle.case_lines.proofs.Places.{part_long, place_put}
use Rattle.case_lines.proofs.Turns.{put_next}
use Rattle.case_lines.proofs.range.put_places.Goals as goal

pub loop-i-init : goal.loop-i-init
unfolding in_turn
loop-i-init c = (omega arith, record { bytes = refl; place = omega arith })

pub overflow_mul-from : goal.overflow_mul-from
overflow_mul-from c = omega (arith, c.requires.0, c.loop-i-test.true)

pub overflow_add-to : goal.overflow_add-to
overflow_add-to c = omega (arith, c.requires.0, c.loop-i-test.true)

pub slice_bounds-put_numbers-count : goal.slice_bounds-put_numbers-count
slice_bounds-put_numbers-count c = omega arith

pub slice_bounds-put_numbers-end : goal.slice_bounds-put_numbers-end
slice_bounds-put_numbers-end c = omega (arith, c.requires.0, c.loop-i-test.true)

pub put_numbers-end-requires : goal.put_numbers-end-requires
put_numbers-end-requires c =
    let list = c.args.list.now in
    let i = c.loop-i.i in
    let long : length (take (i * answer_length + answer_length - i * answer_length) (drop (i * answer_length) list)) ≡ answer_length = part_long list i (i * answer_length) (i * answer_length + answer_length - i * answer_length) refl (omega arith) (omega (arith, c.requires.0, c.loop-i-test.true)) in
    omega (arith, c.requires.1, c.loop-i.auto.out, c.loop-i.invariant.0, c.loop-i-test.true)

pub loop-i-preserved : goal.loop-i-preserved
loop-i-preserved c =
    let list = c.args.list.now in
    let i = c.loop-i.i in
    let long : length (take (i * answer_length + answer_length - i * answer_length) (drop (i * answer_length) list)) ≡ answer_length = part_long list i (i * answer_length) (i * answer_length + answer_length - i * answer_length) refl (omega arith) (omega (arith, c.requires.0, c.loop-i-test.true)) in
    let inv = c.loop-i.invariant in
    let put = c.put_numbers-end.ensures in
    (omega (arith, put.1, inv.0), put_next (λ k. line (numbers_at k list)) _ _ _ _ _ _ i (i + 1) inv.1 (place_put list i (i * answer_length) (i * answer_length + answer_length - i * answer_length) put.0 refl (omega arith)) refl)

pub returns : goal.returns
returns c =
    let i : c.loop-i.i ≡ c.args.n = omega arith in
    (rw i at c.loop-i.invariant.1, rw i at c.loop-i.invariant.0)
