-- The same unit is 1 to 1; another is looked up among the rows of the code, which answer as the table does. Assumes nothing.
use Rattle.std.proofs.Common.{rules}
use Prim.Native.Nat.{ℕ}
use mathlib.Core.Path.{◌≡◌, sym, ◌∙◌, ap}
use borrow.Author.Tests.{eq-eqb, ne_eqb}
use Rattle.guideline.specs.declared.entries.Prescription.{Prescription}
use Rattle.guideline.specs.declared.rows.Row730.{Row730}
use Rattle.guideline.specs.declared.rows.TableName.TheVariants.{T730}
use Rattle.guideline.specs.Table.{Table, among}
use Rattle.guideline.specs.Rows.{keyed}
use Rattle.guideline.specs.Steps.{unit_row}
use Rattle.guideline.specs.Results.{answered}
use Rattle.guideline.proofs.Answered.{ends_here, goes_on}
use Rattle.keys.specs.Rows.{lent_rows}
use Rattle.tables.specs.declared.found.Found.{Found}
use Rattle.tables.specs.Found.{found}
use Rattle.tables.specs.Tests.{of_unit}
use Rattle.tables.proofs.Units.{unit_asked}
use Rattle.units.proofs.Plan.{same_unit, other_unit, amounts_come_to, base_rows, entered_rows, base_row, entered_row, with_base, amounts}
use Rattle.units.proofs.ratio.Goals as goal

-- what was found of a unit among the rows of the code is what the table has of it
found_unit : {f : Found Row730} {rows : Table Row730} (t : Table Row730) (p : Prescription) (unit : ℕ) → f ≡ found (rows (of_unit p.srtcde unit)) → rows ≡ among (keyed T730 p.code) t → f ≡ found (t (unit_row p.srtcde p.code unit))
found_unit t p unit e h = e ∙ ap found (unit_asked p.code t h p.srtcde unit)

pub returns-then-p : goal.returns-then-p
returns-then-p c d = sym (ap answered (same_unit d _ c.args.p (eq-eqb _ _ c.if-p.true)))

pub returns-in_err-base : goal.returns-in_err-base
returns-in_err-base c d =
    let p = c.args.p in
    let t = lent_rows c.args.t730.now in
    let b = c.one.ensures _ (found_unit t p p.base c.of_unit.ensures c.of_key-rows.ensures.rows) d in
    rw (other_unit d t p (ne_eqb _ _ c.if-p.false), ← ends_here d (base_row (base_rows t p)) (with_base (entered_rows t p)) b c.in_err-base.was) (search rules)

pub returns-in_err-entered : goal.returns-in_err-entered
returns-in_err-entered c d =
    let p = c.args.p in
    let t = lent_rows c.args.t730.now in
    let b = c.one.ensures _ (found_unit t p p.base c.of_unit.ensures c.of_key-rows.ensures.rows) d in
    let n = c.one-2.ensures _ (found_unit t p p.entered c.of_unit-2.ensures c.of_key-rows.ensures.rows) d in
    rw (
      other_unit d t p (ne_eqb _ _ c.if-p.false),
      ← goes_on d (base_row (base_rows t p)) (with_base (entered_rows t p)) b c.in_ok-base.was,
      ← ends_here d (entered_row (entered_rows t p)) (amounts c.in_ok-base.base) n c.in_err-entered.was,
    )
    (search rules)

pub returns : goal.returns
returns c d =
    let p = c.args.p in
    let t = lent_rows c.args.t730.now in
    let b = c.one.ensures _ (found_unit t p p.base c.of_unit.ensures c.of_key-rows.ensures.rows) d in
    let n = c.one-2.ensures _ (found_unit t p p.entered c.of_unit-2.ensures c.of_key-rows.ensures.rows) d in
    rw (
      other_unit d t p (ne_eqb _ _ c.if-p.false),
      ← goes_on d (base_row (base_rows t p)) (with_base (entered_rows t p)) b c.in_ok-base.was,
      ← goes_on d (entered_row (entered_rows t p)) (amounts c.in_ok-base.base) n c.in_ok-entered.was,
      amounts_come_to d c.in_ok-base.base c.in_ok-entered.entered,
    )
    (search rules)
