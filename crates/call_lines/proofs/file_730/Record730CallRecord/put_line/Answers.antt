-- 0 and the numbers of a record. Assumes nothing.
use native.Mathlib.Omega.{arith}
use Rattle.records_730.specs.File730.{file_730}
use Rattle.call_lines.specs.Lines.{read_line}
use Rattle.call_lines.proofs.file_730.Record730CallRecord.put_line.Goals as goal

pub returns : goal.returns
unfolding read_line file_730
returns c = (c.put_spaced.ensures.0, omega (arith, c.put_spaced.ensures.1))
