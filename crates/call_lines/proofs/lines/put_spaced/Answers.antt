-- The numbers that are left complete the line. Assumes nothing.
use mathlib.Core.Path.{◌∙◌}
use native.Mathlib.Omega.{arith}
use lib.Seq.{length-sets}
use Rattle.decimals.specs.Decimal.{space, line_feed, field}
use Rattle.decimals.proofs.Decimal.{field_64}
use Rattle.call_lines.proofs.Lining.{spaced_turn, spaced_place, spaced_end}
use Rattle.call_lines.proofs.lines.put_spaced.Goals as goal

pub loop-n-preserved : goal.loop-n-preserved
loop-n-preserved c =
    let p = c.put_field-end.ensures in
    record {
      inside = omega arith;
      whole = rw p.bytes (length-sets c.loop-n.out c.loop-n.end (field c.loop-n.last space)) ∙ c.loop-n.invariant.whole;
      fits = omega (arith, c.type_inv.last);
      room = omega (arith, p.place, field_64 c.loop-n.last space (omega arith));
      place = spaced_place _ _ _ _ _ _ _ c.loop-n-test.true p ∙ c.loop-n.invariant.place;
      bytes = spaced_turn _ _ _ _ _ _ _ c.loop-n-test.true p ∙ c.loop-n.invariant.bytes;
    }

pub returns : goal.returns
returns c =
    let p = c.put_field.ensures in
    (spaced_end _ _ _ _ _ _ _ _ _ _ (omega arith) p c.loop-n.invariant.place c.loop-n.invariant.bytes, omega (arith, p.place, field_64 c.loop-n.last line_feed (omega arith)))
