use Rattle.decimals.proofs.Decimal.{decimal_digits}
use mathlib.Core.Path.{sym, ap, ◌∙◌}
use lib.Seq.{sets}
use Rattle.decimals.proofs.put_decimal.Goals as goal

pub returns : goal.returns
returns c = record { bytes = c.put_digits.ensures ∙ ap (sets c.args.out.now c.args.at) (sym (decimal_digits _ _ (sym c.places-width.ensures))); place = rw c.places-width.ensures }
