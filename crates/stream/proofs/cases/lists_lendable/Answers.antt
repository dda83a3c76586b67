-- The lists that are passed are short; one that is not ends the search. Assumes nothing.
use Prim.Native.Nat.{◌+◌}
use mathlib.Core.Path.{◌≡◌, refl, sym}
use native.Mathlib.Omega.{arith}
use Rattle.stream.specs.Cases.{entry_count, wanted_of, lists_lendable, lendable}
use Rattle.stream.specs.declared.cases.Form.TheVariants.{Range}
use Rattle.stream.proofs.Inside.{front_inside, tables_inside}
use Rattle.stream.proofs.Lists.{list_long, next_lendable}
use Rattle.stream.proofs.cases.lists_lendable.Goals as goal

pub entry_count-i-end-requires : goal.entry_count-i-end-requires
entry_count-i-end-requires c = front_inside c.args.case.now (tables_inside Range c.args.case.now c.requires)

pub loop-i-init : goal.loop-i-init
unfolding lists_lendable
loop-i-init c = refl

pub returns-then-wanted_of-gt-MOST_PLACES : goal.returns-then-wanted_of-gt-MOST_PLACES
unfolding lendable
returns-then-wanted_of-gt-MOST_PLACES c =
    sym (list_long c.args.case.now (entry_count c.args.case.now) c.loop-i.i (omega arith) (rw (← c.wanted_of.ensures) (omega arith)))

pub loop-i-preserved : goal.loop-i-preserved
loop-i-preserved c =
    next_lendable c.args.case.now c.loop-i.i (c.loop-i.i + 1) refl c.loop-i.invariant (rw (← c.wanted_of.ensures) (omega arith))

pub returns : goal.returns
unfolding lendable
returns c =
    let i : c.loop-i.i ≡ entry_count c.args.case.now = omega arith in
    sym (rw i at c.loop-i.invariant)
