-- The line of the answer. Assumes nothing.
use Rattle.case_lines.specs.Lines.{answer_line}
use Rattle.case_lines.proofs.single.put.Goals as goal

pub returns : goal.returns
unfolding answer_line
returns c = rw c.answer.ensures at c.put_line.ensures
