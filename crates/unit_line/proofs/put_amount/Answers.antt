use mathlib.Core.Path.{refl}
use Rattle.decimals.proofs.Puts.{put_on}
use Rattle.unit_line.proofs.Pieces.{amount_pieces, put_decimals}
use Rattle.unit_line.proofs.put_amount.Goals as goal

pub returns : goal.returns
returns c = rw (amount_pieces c.args.n) (put_on c.put_field-decimals.ensures (put_on (put_decimals _ _ c.put_digits.ensures) (record { bytes = refl; place = refl })))
