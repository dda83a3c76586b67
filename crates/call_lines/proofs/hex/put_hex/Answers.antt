-- `put_hex` meets its contract: the bytes that are left complete the text. Assumes nothing.
use mathlib.Core.Path.{refl, ◌∙◌}
use native.Mathlib.Omega.{arith}
use lib.ListN.{length-set}
use Rattle.call_lines.proofs.Lining.{hex_turn, hex_end}
use Rattle.call_lines.proofs.hex.put_hex.Goals as goal

pub loop-b-init : goal.loop-b-init
loop-b-init c = (omega arith, omega arith, refl, refl)

pub loop-b-preserved : goal.loop-b-preserved
loop-b-preserved c =
    (omega arith, omega arith, simp length-set (omega arith), hex_turn _ _ _ _ _ _ c.loop-b-test.true c.hex_digit.ensures c.hex_digit-in-loop-b.ensures ∙ c.loop-b.invariant.3)

pub returns : goal.returns
returns c = hex_end _ _ _ _ _ _ c.loop-b.invariant.0 (omega arith) c.loop-b.invariant.1 c.loop-b.invariant.3
