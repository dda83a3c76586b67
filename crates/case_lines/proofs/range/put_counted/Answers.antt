-- The lines of the answers, or the number of the refusal. Assumes nothing.
use Prim.Native.Nat.{ℕ, ◌*◌, ◌≤◌}
use mathlib.Core.List.{[], ◌∷◌}
use mathlib.Core.Path.{ap}
use native.Mathlib.Omega.{arith}
use lib.ListN.{length}
use Rattle.guideline.specs.Check.{answer_length}
use Rattle.guideline.specs.Counts.{most_counts, refusal_number}
use Rattle.stream.proofs.InLine.{line_of_these}
use Rattle.case_lines.proofs.range.put_counted.Goals as goal

pub put_places-requires : goal.put_places-requires
put_places-requires c =
    let short : (c.in-Ok.n ≤ most_counts) × (c.in-Ok.n * answer_length ≤ length c.args.list.now) = rw c.in-Ok.is at c.requires.0 in
    (short.1, omega (arith, short.0, c.requires.1))

pub returns-in-Ok : goal.returns-in-Ok
returns-in-Ok c =
    let short : (c.in-Ok.n ≤ most_counts) × (c.in-Ok.n * answer_length ≤ length c.args.list.now) = rw c.in-Ok.is at c.requires.0 in
    (rw c.in-Ok.is c.put_places.ensures.0, omega (arith, short.0, c.put_places.ensures.1))

pub returns-in-Err : goal.returns-in-Err
returns-in-Err c =
    (rw c.in-Err.is (line_of_these _ (refusal_number c.in-Err.why ∷ []) c.put_numbers.ensures.0 (ap (λ (n : ℕ). n ∷ []) c.number.ensures)), omega (arith, c.put_numbers.ensures.1))
