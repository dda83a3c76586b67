-- The lists that are passed are short; one that is not ends the search. Assumes nothing.
use mathlib.Core.Bool.{true}
use mathlib.Core.Path.{◌≡◌}
use Rattle.stream.specs.Cases.{lists_lendable}
use Rattle.stream.proofs.cases.lists_lendable.Given as goal

abbrev pub invariant-loop-i : goal.invariant-loop-i
invariant-loop-i l = lists_lendable l.case l.i ≡ true
