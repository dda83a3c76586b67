-- The record's numbers are its values, so the layout's writer is the file's.
use Rattle.records.specs.File.{writing, leaves}
use Rattle.records_070.specs.File070.{file_070}
use Rattle.records_070.proofs.write_070.Goals as goal

pub returns : goal.returns
unfolding file_070 writing leaves
returns c = (c.write.ensures.answer, c.write.ensures.bytes)
