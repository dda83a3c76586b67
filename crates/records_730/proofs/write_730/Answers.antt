-- The record's numbers are its values, so the layout's writer is the file's.
use Rattle.records.specs.File.{writing, leaves}
use Rattle.records_730.specs.File730.{file_730}
use Rattle.records_730.proofs.write_730.Goals as goal

pub returns : goal.returns
unfolding file_730 writing leaves
returns c = (c.write.ensures.answer, c.write.ensures.bytes)
