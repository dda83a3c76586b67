-- What the tally of the rows of a key tells is what they answer. Assumes nothing.
use Prim.Native.Nat.{ℕ}
use mathlib.Core.Path.{◌≡◌, sym, ◌∙◌, ap}
use mathlib.Core.Bool.{Bool, true, false, ◌&&◌}
use native.Mathlib.Omega.{arith}
use Rattle.std.specs.Prelude.{Option, None as No, Some}
use Rattle.std.specs.Option.{is_some}
use Rattle.guideline.specs.Table.{None, One, Many, some, number}
use Rattle.cells.specs.declared.Tally.{Tally}
use Rattle.cells.specs.declared.row.TableRow.{Ghosts}
use Rattle.cells.specs.Tally.{tallied}
use Rattle.cells.proofs.Tallied.{told_none, told_one, told_many, tallying_none, tallying_skip}
use Rattle.cells.proofs.Lents.{rows_told, rows_number, rows_found, rows_missed}
use Rattle.keys.specs.declared.rows.KeyRows.{KeyRows}
use Rattle.keys.specs.Hits.{First}
use Rattle.keys.specs.Rows.{row_of, hit_of, key_rows}
use Rattle.tables.specs.Found.{found}

module _ {A : Type 0} {R : Ghosts A} (r : KeyRows A R) (p : A → Bool) where
  abbrev asked : A → Bool
  asked x = R.keyed r.key x && p x

  module _ {t : Tally} (e : t ≡ tallied (hit_of r p) r.view.rows) where
    pub tells_none : t.count ≡ 0 → found None ≡ found (key_rows r p)
    tells_none z = sym (ap found (rows_told R.read r.bytes.now r.view asked e ∙ told_none _ z))

    pub tells_one : {x : A} → t.count ≡ 1 → x ≡ row_of r t.last → found (One x) ≡ found (key_rows r p)
    tells_one o read =
        ap (λ (y : A). found (One y)) read
        ∙ sym (ap found (rows_told R.read r.bytes.now r.view asked e ∙ told_one _ o))

    pub tells_many : (t.count ≡ 0 → ⊥) → (t.count ≡ 1 → ⊥) → found (Many t.count) ≡ found (key_rows r p)
    tells_many z o = sym (ap found (rows_told R.read r.bytes.now r.view asked e ∙ told_many _ _ z o))

    pub tells_number : t.count ≡ number (key_rows r p)
    tells_number = sym (rows_number R.read r.bytes.now r.view asked e)

  -- there is such a row, or there is none
  some_first : {i : ℕ} → First (hit_of r p) r.view.rows (Some i) → some (key_rows r p) ≡ true
  some_first {i} k = rows_found R.read r.bytes.now r.view asked i k.0 k.2

  none_first : First (hit_of r p) r.view.rows No → some (key_rows r p) ≡ false
  none_first k =
      rows_missed R.read r.bytes.now r.view asked (tallying_skip (hit_of r p) r.view.rows (tallying_none (hit_of r p) r.view.rows) (omega arith) (omega arith) (λ m above. k m)) (omega arith)

  pub any_first : (i : Option ℕ) → First (hit_of r p) r.view.rows i → is_some i ≡ some (key_rows r p)
  any_first No k = sym (none_first k)
  any_first (Some i) k = sym (some_first k)
