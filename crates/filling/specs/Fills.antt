-- The filling as code: what one row of table 70 makes of an entry.
use Rattle.std.specs.Prelude.{cond, Result, Ok, Err}
use Rattle.guideline.specs.declared.entries.Entry.{Entry}
use Rattle.guideline.specs.declared.refusals.Ending.TheVariants.{HpkRowDiffers}
use Rattle.guideline.specs.declared.refusals.Refusal.{Refusal}
use Rattle.guideline.specs.declared.refusals.Refusal.TheVariants.{Ends}
use Rattle.guideline.specs.declared.rows.Row070.{Row070}
use Rattle.guideline.specs.Filling.{agrees, filled_by}

unfoldable pub by_row : Row070 → Entry → Result Entry Refusal
by_row r e = cond (agrees r e) (Ok (filled_by r e)) (Err (Ends HpkRowDiffers))
