-- A question of P4 ends step 9; else the signal does, suppressed or not. Assumes nothing.
use mathlib.Core.Path.{sym, ◌∙◌, ap}
use Rattle.guideline.specs.declared.refusals.Ending.TheVariants.{Suppressed, NoFrequency}
use Rattle.guideline.specs.declared.refusals.Refusal.{Refusal}
use Rattle.guideline.specs.declared.refusals.Refusal.TheVariants.{Ends}
use Rattle.guideline.specs.declared.refusals.Signal.{Signal}
use Rattle.guideline.specs.Ask.{Chosen, Refused}
use Rattle.guideline.specs.Entries.{datum}
use Rattle.keys.specs.Rows.{lent_rows}
use Rattle.quiet.specs.Suppressed.{outcome}
use Rattle.sieve.specs.Left.{kept}
use Rattle.dose_row.proofs.Narrowed.{signal_asked, signal_suppressed, signal_stands}
use Rattle.dose_row.proofs.by_frequency.no_frequency.Goals as goal

pub returns-in-Ok-true : goal.returns-in-Ok-true
returns-in-Ok-true c =
    let a = c.args in
    signal_suppressed (lent_rows a.t649.now) a.p a.c (kept a.left.now) (datum a.d) (c.suppresses.ensures ∙ ap outcome c.in-Ok-true.is ∙ ap Chosen c.in-Ok-true.field-0-test)
    ∙ ap (λ (s : Signal). Refused (Ends (Suppressed s)) tt) (sym c.signal-signal.ensures)

pub returns-in-Ok-false : goal.returns-in-Ok-false
returns-in-Ok-false c =
    let a = c.args in
    signal_stands (lent_rows a.t649.now) a.p a.c (kept a.left.now) (datum a.d) (c.suppresses.ensures ∙ ap outcome c.in-Ok-false.is ∙ ap Chosen c.in-Ok-false.field-0-test)
    ∙ ap (λ (s : Signal). Refused (Ends (NoFrequency s)) tt) (sym c.signal-signal.ensures)

pub returns-in-Err : goal.returns-in-Err
returns-in-Err c =
    let a = c.args in
    signal_asked (lent_rows a.t649.now) a.p a.c (kept a.left.now) (datum a.d) (c.suppresses.ensures ∙ ap outcome c.in-Err.is)
    ∙ ap (λ (r : Refusal). Refused r tt) (sym c.from.ensures)
