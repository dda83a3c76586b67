-- The numbers that the layout's reader answers are the file's record.
use Rattle.std.proofs.lemmas.Result.{err_from_is_err_and}
use Rattle.records.proofs.Files.{read_refused, read_said}
use Rattle.records_070.specs.File070.{file_070}
use Rattle.records_070.proofs.read_070.Goals as goal

pub returns-in_err-mutation : goal.returns-in_err-mutation
unfolding file_070
returns-in_err-mutation c =
    let p = err_from_is_err_and c.from_residual.result c.from_residual.ensures.1 in
    rw (p.1, p.2) (read_refused file_070 _ _ c.in_err-mutation.ensures.numbers)

pub returns : goal.returns
unfolding file_070
returns c = read_said file_070 _ _ c.in_ok-mutation.ensures.numbers
