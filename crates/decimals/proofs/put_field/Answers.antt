use mathlib.Core.Path.{refl}
use native.Mathlib.Omega.{arith}
use Rattle.decimals.specs.Decimal.{field}
use Rattle.decimals.proofs.Decimal.{length_field}
use Rattle.decimals.proofs.Puts.{put_on}
use Rattle.decimals.proofs.put_field.Goals as goal

pub put_decimal-end-requires : goal.put_decimal-end-requires
put_decimal-end-requires c = omega (arith, length_field c.args.n c.args.behind)

pub bounds-out-end : goal.bounds-out-end
bounds-out-end c = omega (arith, length_field c.args.n c.args.behind)

pub overflow_add-result : goal.overflow_add-result
overflow_add-result c = omega (arith, length_field c.args.n c.args.behind)

pub returns : goal.returns
unfolding field
returns c = put_on c.put_decimal-end.ensures (record { bytes = refl; place = refl })
