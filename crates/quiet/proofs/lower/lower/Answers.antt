-- No row that the loop has passed bars, and it remembers whether one allowed more. Assumes nothing.
use mathlib.Core.Path.{refl, sym, ◌∙◌, ap}
use mathlib.Core.Bool.{◌&&◌}
use native.Mathlib.Omega.{arith}
use Rattle.guideline.specs.declared.rows.Row643.{Row643}
use Rattle.guideline.specs.Quiet.{allows_more, lower}
use Rattle.keys.specs.Rows.{lent_rows}
use Rattle.sieve.specs.declared.left.Left.{Left}
use Rattle.sieve.specs.Settled.{settled643}
use Rattle.quiet.specs.Judged.{judged}
use Rattle.quiet.proofs.Judging.{barred, freed}
use Rattle.quiet.proofs.Looked.{looked_on, looked_all}
use Rattle.quiet.proofs.lower.lower.Invariants.{bars}
use Rattle.quiet.proofs.lower.lower.Goals as goal

pub returns-in_default-judge : goal.returns-in_default-judge
unfolding lower
returns-in_default-judge c =
    let a = c.args in
    let s = a.settled in
    let left : Left = record { rows = a.rows.now; settled = s } in
    let b = bars (lent_rows a.t649.now) in
    let m = allows_more (lent_rows a.t649.now) a.p a.q in
    let here = c.judge.ensures ∙ ap (λ (r : Row643). judged (settled643 s r && b r) (settled643 s r && m r)) c.row.ensures in
    let looked = looked_on left b c.loop-here.invariant.1 c.in-Some.ensures (barred _ _ (sym here ∙ c.in_default-judge.is)) in
    rw (looked.1 refl)

pub loop-here-preserved : goal.loop-here-preserved
loop-here-preserved c =
    let a = c.args in
    let s = a.settled in
    let left : Left = record { rows = a.rows.now; settled = s } in
    let b = bars (lent_rows a.t649.now) in
    let m = allows_more (lent_rows a.t649.now) a.p a.q in
    let here = c.judge.ensures ∙ ap (λ (r : Row643). judged (settled643 s r && b r) (settled643 s r && m r)) c.row.ensures in
    let free = freed _ _ (sym here ∙ c.in-Some-judge.is) in
    let looked = looked_on left m c.loop-here.invariant.2 c.in-Some.ensures free.1 in
    (omega (arith, c.in-Some.ensures.1), looked_on left b c.loop-here.invariant.1 c.in-Some.ensures free.0, looked)

pub returns : goal.returns
unfolding lower
returns c =
    let a = c.args in
    let left : Left = record { rows = a.rows.now; settled = a.settled } in
    rw (← looked_all left (bars (lent_rows a.t649.now)) c.loop-here.invariant.1 c.in_default.ensures)
    (looked_all left (allows_more (lent_rows a.t649.now) a.p a.q) c.loop-here.invariant.2 c.in_default.ensures)
