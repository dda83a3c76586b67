-- The place that the search found tells which rows are kept; none, that the step is refused. Assumes nothing.
use mathlib.Core.Path.{sym, ◌∙◌, ap}
use Rattle.std.specs.Prelude.{Some}
use Rattle.guideline.specs.Ask.{Chosen}
use Rattle.guideline.specs.Entries.{datum}
use Rattle.keys.specs.Rows.{lent_rows}
use Rattle.filter.specs.Filters.{filter643}
use Rattle.sieve.specs.declared.settled.Settled.{Settled}
use Rattle.sieve.specs.Left.{kept}
use Rattle.sieve.specs.Settled.{and_frequency}
use Rattle.sieve.proofs.Joined.{frequency_joins}
use Rattle.sieve.proofs.Kept.{first_tells, narrowed_kept}
use Rattle.dose_row.proofs.Narrowed.{frequency_found, frequency_none}
use Rattle.dose_row.proofs.by_frequency.by_frequency.Goals as goal

pub returns-in_default : goal.returns-in_default
returns-in_default c =
    let a = c.args in
    let m = rw c.entered.ensures at c.in_default.ensures in
    frequency_none (lent_rows a.t649.now) a.p a.c (kept a.left.now) (datum a.d) m.0 m.1 ∙ c.no_frequency.ensures

pub returns : goal.returns
returns c =
    let a = c.args in
    let s = a.left.now.settled in
    let q = c.in-Some.filter in
    let m = rw c.entered.ensures at c.in-Some.ensures in
    let hit = first_tells a.left.now (filter643 q) (Some c.in-Some.i) m.1 in
    let found = frequency_found (lent_rows a.t649.now) a.p a.c (kept a.left.now) (datum a.d) q m.0 hit in
    let settled = c.by_frequency-left.ensures in
    let left = narrowed_kept a.left.now (and_frequency s q) q (λ r. frequency_joins s r q c.requires.2) (record { rows = c.rest-left.result; settled = c.by_frequency-left.result }) m.1 c.rest-left.ensures.0 c.rest-left.ensures.1 c.rest-left.ensures.2 settled in
    ((ap (λ (w : Settled). w.weight) settled ∙ c.requires.3, ap (λ (w : Settled). w.surface) settled ∙ c.requires.4), found ∙ ap Chosen (sym left))
