-- 0 and the numbers of a record. Assumes nothing.
use native.Mathlib.Omega.{arith}
use Rattle.records_070.specs.File070.{file_070}
use Rattle.call_lines.specs.Lines.{read_line}
use Rattle.call_lines.proofs.file_070.Record070CallRecord.put_line.Goals as goal

pub returns : goal.returns
unfolding read_line file_070
returns c = (c.put_spaced.ensures.0, omega (arith, c.put_spaced.ensures.1))
