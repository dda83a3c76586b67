-- The numbers that the layout's reader answers are the file's record.
use Rattle.std.proofs.lemmas.Result.{err_from_is_err_and}
use Rattle.records.proofs.Files.{read_refused, read_said}
use Rattle.records_730.specs.File730.{file_730}
use Rattle.records_730.proofs.read_730.Goals as goal

pub returns-in_err-mutation : goal.returns-in_err-mutation
unfolding file_730
returns-in_err-mutation c =
    let p = err_from_is_err_and c.from_residual.result c.from_residual.ensures.1 in
    rw (p.1, p.2) (read_refused file_730 _ _ c.in_err-mutation.ensures.numbers)

pub returns : goal.returns
unfolding file_730
returns c = read_said file_730 _ _ c.in_ok-mutation.ensures.numbers
