-- Which of 115, 116 and 117 is given. Assumes nothing.
use mathlib.Core.Path.{sym, ◌∙◌}
use Rattle.sieve.specs.Left.{kept}
use Rattle.sieve.proofs.Frequencies.{count_differs, unit_differs, both_differ}
use Rattle.sieve.proofs.left.Left.signal.Goals as goal

pub returns-then-any : goal.returns-then-any
returns-then-any c =
    let unit = sym c.any.ensures ∙ c.if-any.true in
    count_differs c.args.p (kept c.args.self.now) (rw c.entered-f.ensures at unit)

pub returns-then-any-2 : goal.returns-then-any-2
returns-then-any-2 c =
    let unit = sym c.any.ensures ∙ c.if-any.false in
    let count = sym c.any-2.ensures ∙ c.if-any-2.true in
    unit_differs c.args.p (kept c.args.self.now) (rw c.entered-f.ensures at unit) (rw c.entered-f.ensures at count)

pub returns : goal.returns
returns c =
    let unit = sym c.any.ensures ∙ c.if-any.false in
    let count = sym c.any-2.ensures ∙ c.if-any-2.false in
    both_differ c.args.p (kept c.args.self.now) (rw c.entered-f.ensures at unit) (rw c.entered-f.ensures at count)
