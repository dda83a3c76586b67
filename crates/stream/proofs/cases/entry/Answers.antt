-- The entries stand behind the tables, one behind the other. Assumes nothing.
use mathlib.Core.Path.{refl}
use native.Mathlib.Omega.{arith}
use Rattle.stream.specs.Cases.{entry_of}
use Rattle.stream.proofs.Inside.{front_inside, tables_inside, entry_inside, size_least}
use Rattle.stream.proofs.cases.entry.Goals as goal

pub entry_start-requires : goal.entry_start-requires
entry_start-requires c =
    let args = c.args in
    (front_inside args.case.now (tables_inside args.form args.case.now c.requires.0), omega (arith, entry_inside args.form args.case.now args.i c.requires.1 c.requires.0))

pub entry_at-requires : goal.entry_at-requires
entry_at-requires c =
    let args = c.args in
    omega (arith, entry_inside args.form args.case.now args.i c.requires.1 c.requires.0, size_least args.form, c.entry_start.ensures)

pub returns : goal.returns
unfolding entry_of
returns c = rw (c.entry_at.ensures, c.entry_start.ensures) refl
