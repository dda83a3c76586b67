-- The record that has begun is ended by what follows, or goes on in it.
use mathlib.Core.Path.{sym, ◌∙◌}
use native.Mathlib.Omega.{arith}
use Rattle.unit_lines.proofs.Feeding.{feeds_text, before_end, begun_some, feeds_records}
use Rattle.unit_lines.proofs.Longest.{longest}
use Rattle.unit_lines.proofs.Whole.{put_inside, put_length}
use Rattle.unit_lines.proofs.machine.feed_on.Goals as goal

pub returns-in_default : goal.returns-in_default
returns-in_default c =
    let none = rw c.last.ensures at (sym c.find_end.ensures ∙ c.in_default.is) in
    feeds_text c.args.m c.args.input.now c.args.from c.args.out.now c.args.at c.requires.0 c.requires.1 _ none c.grown.ensures

pub list_begun-first-requires : goal.list_begun-first-requires
list_begun-first-requires c =
    let some = rw c.last.ensures at (sym c.find_end.ensures ∙ c.in-Some.is) in
    (begun_some c.args.m c.args.input.now c.args.from c.args.out.now c.args.at c.requires.0 c.requires.1 c.in-Some.e some _ c.grown-2.ensures, omega arith)

pub list_whole-next-requires : goal.list_whole-next-requires
list_whole-next-requires c =
    let some = rw c.last.ensures at (sym c.find_end.ensures ∙ c.in-Some.is) in
    let p = c.list_begun-first.ensures in (
      omega (arith, before_end c.args.m c.args.input.now c.args.from c.args.out.now c.args.at c.requires.0 c.requires.1 c.in-Some.e some _ c.grown-2.ensures),
      omega (arith, put_inside p (longest _) c.requires.1, put_length p),
    )

pub returns : goal.returns
returns c =
    let some = rw c.last.ensures at (sym c.find_end.ensures ∙ c.in-Some.is) in
    feeds_records c.args.m c.args.input.now c.args.from c.args.out.now c.args.at c.requires.0 c.requires.1 c.in-Some.e some _ c.grown-2.ensures _ _ _ c.list_whole-next.result _ _ c.list_begun-first.ensures c.list_whole-next.ensures c.empty.ensures c.grown-3.ensures
