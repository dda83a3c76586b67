-- One entry, or several. Assumes nothing.
use borrow.Author.Tests.{le-leb, lt-leb}
use native.Mathlib.Omega.{arith}
use Rattle.stream.specs.Cases.{entry_count}
use Rattle.stream.proofs.Inside.{front_inside}
use Rattle.case_lines.specs.Lines.{test_of}
use Rattle.case_lines.proofs.test_tables.Goals as goal

pub entry_count-requires : goal.entry_count-requires
entry_count-requires c = front_inside c.args.case.now c.requires

pub returns-then-entry_count-le1 : goal.returns-then-entry_count-le1
unfolding test_of
returns-then-entry_count-le1 c = rw (le-leb (entry_count c.args.case.now) 1 (omega arith))

pub returns : goal.returns
unfolding test_of
returns c = rw (lt-leb (entry_count c.args.case.now) 1 (omega arith), c.tables_sound.ensures, c.tables.ensures)
