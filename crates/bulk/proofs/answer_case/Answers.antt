-- A turn writes lines into the buffer, or finds no room in it; behind it the buffer is free. Assumes nothing.
use Rattle.std.proofs.Common.{arith, ℕ, zero, suc, ◌+◌, ◌*◌, ◌-◌, ◌≤◌, ◌<◌, ◌≡◌}
use mathlib.Core.Logic.{⊎_elim}
use Rattle.decimals.proofs.Cases.{lt_or_ge}
use Rattle.stream.proofs.Inside.{tables_inside}
use Rattle.case_lines.proofs.Onward.{test_fits, moves}
use Rattle.bulk.proofs.answer_case.Invariants.{used}
use Rattle.bulk.proofs.answer_case.Goals as goal

turn : {n i j : ℕ} (at : ℕ) → i ≤ j → j < n → (j ≡ i → 0 < at) → 2 * (n - j) + 0 < 2 * (n - i) + used at
turn {n} {i} {j} zero h k e = ⊎_elim (λ (l : i < j). omega arith) (λ (g : j ≤ i). let z = e (omega arith) in omega arith) (lt_or_ge i j)
turn {n} {i} {j} (suc at) h k e = omega arith

pub test_tables-tested-requires : goal.test_tables-tested-requires
test_tables-tested-requires g c = tables_inside c.args.form c.args.case.now c.requires.0.inside

pub lines-done-requires : goal.lines-done-requires
lines-done-requires g c =
    record {
      whole = c.requires.0;
      fitting = rw c.test_tables-tested.ensures (test_fits c.args.case.now);
      entry = c.loop-left.invariant.0;
      place = c.loop-left.invariant.1;
    }

pub loop-left-smaller : goal.loop-left-smaller
loop-left-smaller g c =
    let m = moves c.lines-done.ensures c.in-Some.is in
    turn c.loop-left.end m.0 m.1 (λ e. omega (arith, m.2 e, c.requires.2, c.lines-done.auto.out, c.loop-left.invariant.2))
