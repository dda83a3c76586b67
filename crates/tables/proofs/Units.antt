-- What step 2 asks of a row of 730 asks for the code too. Assumes nothing.
use Prim.Native.Nat.{ℕ}
use mathlib.Core.Path.{◌≡◌, refl, sym, ◌∙◌, ap, fun_ext}
use mathlib.Core.Bool.{Bool, true, false, ◌&&◌}
use lib.Dec.{eqb}
use Rattle.guideline.specs.declared.rows.Row730.{Row730}
use Rattle.guideline.specs.declared.rows.TableName.TheVariants.{T730}
use Rattle.guideline.specs.Table.{Table, among}
use Rattle.guideline.specs.Rows.{keyed}
use Rattle.guideline.specs.Steps.{unit_row}
use Rattle.tables.specs.Tests.{of_unit}

pub unit_of_code : (srtcde code unit : ℕ) → unit_row srtcde code unit ≡ (λ (r : Row730). keyed T730 code r && of_unit srtcde unit r)
unfolding unit_row keyed
unit_of_code srtcde code unit = fun_ext (λ r. and_swap (eqb r.srtcde srtcde) (eqb r.code code) (eqb r.cdeenh unit))
  where
    and_swap : (a b c : Bool) → (a && (b && c)) ≡ (b && (a && c))
    and_swap true b c = refl
    and_swap false true c = refl
    and_swap false false c = refl

-- asked of the rows of the code, or of the table
pub unit_asked : (code : ℕ) {rows : Table Row730} (t : Table Row730) → rows ≡ among (keyed T730 code) t → (srtcde unit : ℕ) → rows (of_unit srtcde unit) ≡ t (unit_row srtcde code unit)
unit_asked code t e srtcde unit =
    ap (λ (u : Table Row730). u (of_unit srtcde unit)) e ∙ sym (ap t (unit_of_code srtcde code unit))
