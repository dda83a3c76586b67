-- What stands in the list are the answers of the range check. Assumes nothing.
use Rattle.guideline.specs.Lent.{lent}
use Rattle.case_lines.proofs.Ranges.{answers_in_list, lines_answered}
use Rattle.case_lines.proofs.range.put_by.Goals as goal

pub put_counted-requires : goal.put_counted-requires
put_counted-requires c =
    let a = c.args in
    let answer = c.answer-counted in
    (answers_in_list (lent a.t) a.e a.w a.list.now _ c.requires.1 answer.result answer.ensures answer.auto.list, c.requires.2)

pub returns : goal.returns
returns c =
    let a = c.args in
    let answer = c.answer-counted in
    let lines = lines_answered (lent a.t) a.e a.w a.list.now _ c.requires.1 answer.result answer.ensures in
    (rw (← lines) c.put_counted.ensures.0, c.put_counted.ensures.1)
