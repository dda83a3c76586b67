-- The setting that is kept has the rows that step 6's plan keeps. Assumes nothing.
use mathlib.Core.Path.{◌∙◌, ap}
use Rattle.guideline.specs.declared.rows.Row642.{Row642}
use Rattle.guideline.specs.Steps.{setting}
use Rattle.guideline.specs.Table.{Table}
use Rattle.keys.specs.Rows.{lent_rows}
use Rattle.selection.specs.Kept.{care_kept, reason_kept, route_found}
use Rattle.selection.proofs.Kept.{setting_rows}
use Rattle.selection.proofs.setting.setting.Goals as goal

pub returns : goal.returns
unfolding setting
returns c d =
    let kept = rw (c.keep_reason-for_reason.ensures, c.keep_care-in_care.ensures) at c.keep_route.ensures in
    let rows = ap (λ (u : Table Row642). route_found u (reason_kept u (care_kept u c.args.s))) c.of_key-rows.ensures.rows in
    rw (← setting_rows (lent_rows c.args.t642.now) c.args.s c.args.basis) (c.one.ensures _ (kept ∙ rows) d)
