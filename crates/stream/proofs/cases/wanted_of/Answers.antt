-- Three numbers behind the entry. Assumes nothing.
use mathlib.Core.Path.{refl}
use native.Mathlib.Omega.{arith}
use Rattle.stream.specs.Cases.{wanted_of}
use Rattle.stream.specs.declared.cases.Form.TheVariants.{Range}
use Rattle.stream.proofs.Inside.{front_inside, tables_inside, entry_inside}
use Rattle.stream.proofs.cases.wanted_of.Goals as goal

pub entry_start-behind-requires : goal.entry_start-behind-requires
entry_start-behind-requires c =
    (front_inside c.args.case.now (tables_inside Range c.args.case.now c.requires.0), omega (arith, entry_inside Range c.args.case.now c.args.i c.requires.1 c.requires.0))

pub overflow_add-behind : goal.overflow_add-behind
overflow_add-behind c = omega (arith, c.entry_start-behind.ensures, entry_inside Range c.args.case.now c.args.i c.requires.1 c.requires.0)

pub number-requires : goal.number-requires
number-requires c = omega (arith, c.entry_start-behind.ensures, entry_inside Range c.args.case.now c.args.i c.requires.1 c.requires.0)

pub number-requires-2 : goal.number-requires-2
number-requires-2 c = omega (arith, c.entry_start-behind.ensures, entry_inside Range c.args.case.now c.args.i c.requires.1 c.requires.0)

pub number-requires-3 : goal.number-requires-3
number-requires-3 c = omega (arith, c.entry_start-behind.ensures, entry_inside Range c.args.case.now c.args.i c.requires.1 c.requires.0)

pub returns : goal.returns
unfolding wanted_of
returns c = rw (c.number-3.ensures, c.number-2.ensures, c.number.ensures, c.entry_start-behind.ensures) refl
