-- The rows that are at least the key, and not at least one more, are those of the key. Assumes nothing.
use Prim.Native.Nat.{◌-◌}
use native.Mathlib.Omega.{arith}
use Rattle.cells.proofs.Views.{narrowed_first}
use Rattle.keys.proofs.RisingKeys.{from_order, from_key, from_before, from_after}
use Rattle.keys.proofs.halved.halved.Goals as goal

pub narrow-requires : goal.narrow-requires
narrow-requires c =
    let h = narrowed_first c.from-a.result c.from-a.ensures.0 c.requires.0 in
    (from_order (omega arith) c.from-a.ensures c.from-b.ensures, omega arith)

pub returns : goal.returns
returns c =
    let a = c.from-a in
    let b = c.from-b in
    record {
      from = a.result;
      to = b.result;
      order = from_order (omega arith) a.ensures b.ensures;
      most = b.ensures.0;
      before = from_before (omega arith) a.ensures b.ensures;
      after = from_after (omega arith) a.ensures b.ensures;
      first = λ some. from_key (omega arith) a.ensures b.ensures a.result (omega arith) some;
      last = λ some. from_key (omega arith) a.ensures b.ensures (b.result - 1) (omega arith) (omega arith);
      cut = c.narrow.ensures;
    }
