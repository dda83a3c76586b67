-- The answers of the counts that are passed stand in front, and all behind them is as it was. Assumes nothing.
use Prim.Native.Nat.{◌+◌, ◌*◌}
use mathlib.Core.List.{◌++◌}
use mathlib.Core.Path.{◌≡◌}
use lib.ListN.{drop}
use Rattle.guideline.specs.Bytes.{spelled}
use Rattle.guideline.specs.Check.{answer_length}
use Rattle.guideline.specs.Counts.{in_turn, single}
use Rattle.guideline.specs.Lent.{lent}
use Rattle.each_count.proofs.put_answers.Given as goal

abbrev pub invariant-loop-i : goal.invariant-loop-i
invariant-loop-i l =
    l.list ≡ in_turn (λ k. single (spelled (lent l.t)) l.asked (l.first + k)) l.i ++ drop (l.i * answer_length) l.initial.list
