-- The record is read from the bytes behind the numbers: its numbers, or the refusal's. Assumes nothing.
use native.Mathlib.Omega.{arith}
use Rattle.decimals.specs.Decimal.{line_feed}
use Rattle.decimals.proofs.Decimal.{field_64}
use Rattle.call_lines.proofs.Lining.{read_refused}
use Rattle.call_lines.proofs.call.put_read.Goals as goal

pub returns-in-Err : goal.returns-in-Err
returns-in-Err g c =
    let p = c.put_field.ensures in
    (rw (read_refused g.R.CallRecord.file c.args.s.now c.args.n c.number.result c.in-Err.e c.in-Err.ensures c.number.ensures) p, omega (arith, p.place, field_64 c.number.result line_feed (omega arith)))
