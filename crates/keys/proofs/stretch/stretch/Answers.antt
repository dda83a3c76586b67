-- The first row with the key and the last bound the stretch. Assumes nothing.
use native.Mathlib.Omega.{arith}
use Rattle.keys.proofs.stretch.stretch.Goals as goal

pub returns-in_default : goal.returns-in_default
returns-in_default c =
    let rows = c.args.v.rows in
    record {
      from = rows;
      to = rows;
      order = omega arith;
      most = omega arith;
      before = c.in_default.ensures;
      after = λ i above below. absurd (let z : ⊥ = omega arith in z);
      first = λ some. absurd (let z : ⊥ = omega arith in z);
      last = λ some. absurd (let z : ⊥ = omega arith in z);
      cut = c.narrow.ensures;
    }

pub returns : goal.returns
returns c =
    let first = c.in-Some.ensures in
    let last = c.end-to in
    record {
      from = c.in-Some.from;
      to = last.result;
      order = last.ensures.0;
      most = last.ensures.1;
      before = first.2;
      after = last.ensures.2;
      first = λ some. first.3;
      last = last.ensures.3;
      cut = c.narrow-2.ensures;
    }
