-- The lines of the entries that are passed stand behind the place. Assumes nothing.
use Prim.Native.Nat.{◌+◌}
use mathlib.Core.Path.{refl}
use native.Mathlib.Omega.{arith}
use Rattle.stream.proofs.Inside.{front_inside, tables_inside}
use Rattle.case_lines.proofs.Onward.{no_line, one_more}
use Rattle.case_lines.proofs.lines.Goals as goal

pub tables-t-requires : goal.tables-t-requires
tables-t-requires c = tables_inside c.args.form c.args.case.now c.requires.whole.inside

pub entry_count-i-end-requires : goal.entry_count-i-end-requires
entry_count-i-end-requires c = front_inside c.args.case.now (tables_inside c.args.form c.args.case.now c.requires.whole.inside)

pub loop-i-init : goal.loop-i-init
loop-i-init c =
    let a = c.args in
    (omega (arith, c.requires.place), no_line a.form a.case.now a.from a.out.now a.at)

pub loop-i-preserved : goal.loop-i-preserved
loop-i-preserved c =
    let a = c.args in
    let loop = c.loop-i in
    let put = c.put_entry-end in
    (omega (arith, put.auto.out, put.ensures.1, c.if-out-end.false, c.longest-longest.ensures), one_more a.form a.case.now a.out.now loop.out _ a.from loop.i a.at loop.end put.result (loop.i + 1) (omega arith) loop.invariant.1 put.ensures.0 refl)
