-- The tests of the definition, in its order. Assumes nothing.
use borrow.Author.Tests.{le-leb, lt-leb}
use lib.ListN.{length}
use mathlib.Core.Path.{sym, ◌∙◌}
use native.Mathlib.Omega.{arith}
use Rattle.stream.specs.Cases.{front_length, longest_case, case_length, what_next}
use Rattle.stream.proofs.cases.what_next.Goals as goal

pub returns-then-have-lt-FRONT : goal.returns-then-have-lt-FRONT
unfolding what_next
returns-then-have-lt-FRONT c =
    let b = c.args.got.now in
    rw (lt-leb front_length (length b) (omega arith)) c.read_on.ensures

pub returns-then-end-gt-LONGEST : goal.returns-then-end-gt-LONGEST
unfolding what_next
returns-then-end-gt-LONGEST c =
    let f = c.args.form in
    let b = c.args.got.now in
    rw (le-leb front_length (length b) (omega arith), lt-leb (case_length f b) longest_case (omega arith))

pub returns-then-have-end : goal.returns-then-have-end
unfolding what_next
returns-then-have-end c =
    let f = c.args.form in
    let b = c.args.got.now in
    rw (le-leb front_length (length b) (omega arith), le-leb (case_length f b) longest_case (omega arith), lt-leb (case_length f b) (length b) (omega arith), ← c.case_length-end.ensures) c.read_on-then-have-end.ensures

pub returns-then-not-can_lend : goal.returns-then-not-can_lend
unfolding what_next
returns-then-not-can_lend c =
    let f = c.args.form in
    let b = c.args.got.now in
    rw (le-leb front_length (length b) (omega arith), le-leb (case_length f b) longest_case (omega arith), le-leb (case_length f b) (length b) (omega arith), sym c.can_lend.ensures ∙ c.if-not-can_lend.true)

pub returns : goal.returns
unfolding what_next
returns c =
    let f = c.args.form in
    let b = c.args.got.now in
    rw (le-leb front_length (length b) (omega arith), le-leb (case_length f b) longest_case (omega arith), le-leb (case_length f b) (length b) (omega arith), sym c.can_lend.ensures ∙ c.if-not-can_lend.false)
