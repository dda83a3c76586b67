-- The number, the bytes and the line feed, one behind the other. Assumes nothing.
use mathlib.Core.Path.{refl}
use native.Mathlib.Omega.{arith}
use Rattle.decimals.specs.Decimal.{space}
use Rattle.decimals.proofs.Decimal.{field_64}
use Rattle.decimals.proofs.Puts.{put_on}
use Rattle.call_lines.specs.Lines.{write_line}
use Rattle.call_lines.proofs.Lining.{length_hex}
use Rattle.call_lines.proofs.lines.put_written.Goals as goal

pub returns : goal.returns
unfolding write_line
returns c = (
  rw (← c.number_of.ensures) (put_on c.put_field-bytes.ensures (put_on c.put_hex-end.ensures (record { bytes = refl; place = refl }))),
  omega (arith, c.put_field-bytes.ensures.place, c.put_hex-end.ensures.place, field_64 c.number_of.result space (omega arith), length_hex c.args.buffer.now),
)
