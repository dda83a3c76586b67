-- From the table's first byte as many as the front says. Assumes nothing.
use Prim.Native.Nat.{◌+◌, ◌-◌}
use mathlib.Core.Path.{◌≡◌, refl}
use native.Mathlib.Omega.{arith}
use Rattle.stream.specs.Cases.{tables_of}
use Rattle.stream.proofs.Inside.{front_inside, table_inside}
use Rattle.stream.proofs.cases.table.Goals as goal

pub start-from-requires : goal.start-from-requires
start-from-requires c = (front_inside c.args.case.now c.requires, omega arith)

pub number-requires : goal.number-requires
number-requires c = omega (arith, front_inside c.args.case.now c.requires)

pub slice_bounds-result-end : goal.slice_bounds-result-end
slice_bounds-result-end c =
    let p = c.place-k.ensures in
    omega (arith, table_inside c.args.case.now c.place-k.result p.1 c.requires)

pub returns : goal.returns
unfolding tables_of
returns c =
    let start = c.start-from.result in
    let length = c.number.result in
    let e : start + length - start ≡ length = omega arith in
    rw (e, c.number.ensures, c.start-from.ensures.0, c.place-k.ensures.0) refl
