use native.Mathlib.Omega.{arith}
use Rattle.unit_lines.specs.Records.{line_of}
use Rattle.unit_lines.proofs.Longest.{longest}
use Rattle.unit_lines.proofs.machine.list_text.Goals as goal

pub put_line-requires : goal.put_line-requires
unfolding line_of
put_line-requires c = rw c.read_730.ensures (omega (arith, longest c.args.text.now))

pub returns : goal.returns
unfolding line_of
returns c = rw c.read_730.ensures at c.put_line.ensures
