-- The numbers of the answer, in their order. Assumes nothing.
use mathlib.Core.Path.{◌≡◌, refl}
use native.Mathlib.Omega.{arith}
use lib.ListN.{length}
use Rattle.guideline.specs.Check.{answer_length, numbers_of}
use Rattle.stream.proofs.InLine.{line_of_these}
use Rattle.stream.proofs.lines.put_line.Goals as goal

pub returns : goal.returns
returns c =
    let nine : length c.numbers.result ≡ answer_length = rw c.numbers.ensures refl in
    (line_of_these _ (numbers_of c.args.a) c.put_numbers.ensures.0 c.numbers.ensures, omega (arith, c.put_numbers.ensures.1))
