-- A list of as many places as are wanted is a part of the longest. Assumes nothing.
use mathlib.Core.Path.{sym}
use native.Mathlib.Omega.{arith}
use lib.Seq.{length-take-le}
use Rattle.case_lines.proofs.range.put.Goals as goal

pub slice_bounds-put_by-end : goal.slice_bounds-put_by-end
slice_bounds-put_by-end c = sym (length-take-le _ _ (omega arith))

pub put_by-requires : goal.put_by-requires
put_by-requires c = (c.requires.0, length-take-le _ _ (omega arith), c.requires.2)
