-- What is left to write is the line of the numbers that are left. Assumes nothing.
use mathlib.Core.List.{[]}
use mathlib.Core.Path.{◌≡◌, refl, ◌∙◌}
use native.Mathlib.Omega.{arith}
use lib.ListN.{drop, get_or, drop_of_length-le}
use Rattle.decimals.proofs.Decimal.{field_32}
use Rattle.stream.specs.Lines.{line}
use Rattle.stream.proofs.InLine.{put_number}
use Rattle.stream.proofs.lines.put_numbers.Goals as goal

pub put_field-end-requires : goal.put_field-end-requires
put_field-end-requires c =
    omega (arith, field_32 (get_or c.args.numbers.now c.loop-i.i 0) c.separator.result (omega (arith, c.type_inv.numbers c.loop-i.i)))

pub loop-i-preserved : goal.loop-i-preserved
loop-i-preserved c =
    let numbers = c.args.numbers.now in
    let i = c.loop-i.i in
    let inv = c.loop-i.invariant in
    let size = field_32 (get_or numbers i 0) c.separator.result (omega (arith, c.type_inv.numbers i)) in
    let put = put_number numbers i (omega arith) c.separator.ensures c.put_field-end.ensures in
    (omega (arith, c.put_field-end.ensures.place), put.0 ∙ inv.1, put.1 ∙ inv.2)

pub returns : goal.returns
unfolding line
returns c =
    let inv = c.loop-i.invariant in
    let e : drop c.loop-i.i c.args.numbers.now ≡ [] = drop_of_length-le c.args.numbers.now c.loop-i-test.false in
    (record { bytes = rw e at inv.2; place = omega (arith, rw e at inv.1) }, omega arith)
