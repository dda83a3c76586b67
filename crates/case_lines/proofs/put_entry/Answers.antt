-- Each form has its lines. Assumes nothing.
use Prim.Native.Nat.{◌≤◌}
use Rattle.stream.specs.Cases.{entry_count, most_places, lendable}
use Rattle.stream.proofs.Lists.{list_lendable}
use Rattle.case_lines.proofs.Tables.{single_lines, range_lines_of}
use Rattle.case_lines.proofs.put_entry.Goals as goal

pub entry-e-requires : goal.entry-e-requires
entry-e-requires c = (c.requires.0.inside, c.requires.1)

pub put-requires : goal.put-requires
put-requires c =
    let pre = c.requires in
    (rw pre.3 pre.2, rw c.in-Single.is at pre.4)

pub wanted_of-requires : goal.wanted_of-requires
wanted_of-requires c =
    let pre = c.requires in
    (rw c.in-Range.is at pre.0.inside, pre.1)

-- a case that wants a longer list is not answered
pub put-requires-in-Range : goal.put-requires-in-Range
unfolding lendable
put-requires-in-Range c =
    let a = c.args in
    let pre = c.requires in
    let short : c.wanted_of.result.places ≤ most_places = rw c.wanted_of.ensures (list_lendable a.case.now (entry_count a.case.now) a.i pre.1 (rw c.in-Range.is at pre.0.lists)) in
    (rw pre.3 pre.2, short, rw c.in-Range.is at pre.4)

pub returns-in-Single : goal.returns-in-Single
returns-in-Single c =
    let a = c.args in
    let form = c.in-Single.is in
    let lines = single_lines a.form a.case.now a.i form c.requires.3 c.entry-e.ensures in
    (rw lines at c.put.ensures.0, rw form c.put.ensures.1)

pub returns-in-Range : goal.returns-in-Range
returns-in-Range c =
    let a = c.args in
    let form = c.in-Range.is in
    let lines = range_lines_of a.form a.case.now a.i form c.requires.3 c.entry-e.ensures c.wanted_of.ensures in
    (rw lines at c.put-in-Range.ensures.0, rw form c.put-in-Range.ensures.1)
