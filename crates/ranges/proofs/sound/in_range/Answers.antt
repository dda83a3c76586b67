-- What was found of a table is so. Assumes nothing.
use Prim.Native.Nat.{ℕ}
use mathlib.Core.Bool.{Bool, true, false, cond}
use mathlib.Core.List.{List}
use mathlib.Core.Path.{◌≡◌, refl, ◌∙◌, ap}
use Rattle.std.specs.Prelude.{Option, None, Some, Ok, Err}
use Rattle.std.specs.Option.{ok_or}
use Rattle.guideline.specs.declared.refusals.Ending.{Ending}
use Rattle.guideline.specs.declared.refusals.Refusal.TheVariants.{Ends}
use Rattle.guideline.specs.Bytes.{by_rows}
use Rattle.guideline.specs.Lent.{lent}
use Rattle.guideline.specs.Rows.{sound_row}
use Rattle.guideline.specs.Table.{all_rows}
use Rattle.cells.specs.Lents.{rows}
use Rattle.keys.specs.declared.seen.Seen.{Seen}
use Rattle.keys.specs.Seen.{seen_of}
use Rattle.ranges.specs.Soundly.{tested_by, tested}
use Rattle.ranges.proofs.sound.in_range.Goals as goal

passed_or : {A E : Type 0} (b : Bool) (a : A) (why : E) → ok_or (cond b (Some a) None) why ≡ cond b (Ok a) (Err why)
passed_or true a why = refl
passed_or false a why = refl

pub returns : goal.returns
unfolding tested_by
returns c =
    let n = c.args.n in
    let l = lent c.args.t n in
    let why = Ends (Ending.OutOfRange n) in
    c.ok_or.ensures.value
    ∙ ap (λ (o : Option Seen). ok_or o why) (c.tested_table.ensures ∙ ap (λ (x : List ℕ). tested n x (by_rows n x)) c.table.ensures)
    ∙ passed_or (all_rows (sound_row n) (rows n l)) (seen_of n l) why
