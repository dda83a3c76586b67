use Prim.Native.Nat.{◌≤◌, ◌+◌}
use mathlib.Core.Path.{◌≡◌}
use native.Mathlib.Omega.{arith}
use borrow.Author.Rules.{rules}
use lib.ListN.{length}
use lib.Seq.{take_all}
use Rattle.unit_lines.proofs.Kept.{text_most, text_length, part_put, more_all, more_cut}
use Rattle.unit_lines.proofs.text.ListMachine.more_kept.Goals as goal

pub overflow_sub-self : goal.overflow_sub-self
overflow_sub-self c = omega (arith, text_most _ c.requires, text_length _ c.requires)

pub slice_bounds-bytes-end : goal.slice_bounds-bytes-end
slice_bounds-bytes-end c = omega (arith, text_most _ c.requires, text_length _ c.requires, c.min-n.ensures)

pub returns-then-n-more : goal.returns-then-n-more
returns-then-n-more c =
    let m = c.args.self in
    let full : m.len + c.min-n.result ≡ 66 = omega (arith, text_most _ c.requires, text_length _ c.requires) in
    let bytes : length m.bytes ≡ 66 = search rules in
    rw (part_put m.bytes c.args.more.now _ m.len c.min-n.result (omega arith) (omega arith) c.copy_from_slice.ensures.after) (more_cut _ c.requires c.args.more.now c.min-n.result full c.if-n-more.true)

pub returns-else-n-more : goal.returns-else-n-more
returns-else-n-more c =
    let m = c.args.self in
    let n : c.min-n.result ≡ length c.args.more.now = omega arith in
    let e = take_all c.min-n.result c.args.more.now (omega arith) in
    let fits : m.len + length c.args.more.now ≤ 66 = omega (arith, text_most _ c.requires, text_length _ c.requires) in
    let bytes : length m.bytes ≡ 66 = search rules in
    rw (part_put m.bytes c.args.more.now _ m.len c.min-n.result (omega arith) (omega arith) c.copy_from_slice.ensures.after, e, n) (more_all _ c.requires c.args.more.now fits)
