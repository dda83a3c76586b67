use Rattle.decimals.proofs.Decimal.{length_digits}
use Rattle.records.proofs.Filled.{filled}
use Rattle.records.proofs.part.put_width.Goals as goal

pub returns : goal.returns
returns g c = filled c.args.buf.now _ _ c.args.at _ c.requires (length_digits _ c.args.n) c.put_digits.ensures
