-- The stretch of a table where a key stands answers as the table does, of each table by its name. Assumes nothing.
use Prim.Native.Nat.{ℕ}
use mathlib.Core.Path.{◌≡◌, sym, ◌∙◌, ap, fun_ext}
use mathlib.Core.Bool.{Bool, ◌&&◌}
use mathlib.Core.List.{List}
use borrow.Author.Tests.{ne_eqb}
use Rattle.guideline.specs.declared.rows.Row730.{Row730}
use Rattle.guideline.specs.declared.rows.TableName.{TableName}
use Rattle.guideline.specs.declared.rows.TableName.TheVariants.{T730}
use Rattle.guideline.specs.declared.view.View.{View}
use Rattle.guideline.specs.Table.{Hits, among}
use Rattle.guideline.specs.Rows.{Row, read_row, keyed}
use Rattle.guideline.specs.Steps.{unit_row}
use Rattle.cells.specs.Keyed.{keyed_read}
use Rattle.cells.specs.Lents.{shown, key_at}
use Rattle.keys.specs.Keys.{Stretch}
use Rattle.keys.proofs.Answers.{stretch_answers}
use Rattle.tables.proofs.Units.{unit_of_code}
use Rattle.tables.specs.Tests.{of_unit}

module _ (n : TableName) {k : ℕ} {l : List ℕ} {v r : View} (s : Stretch l v (key_at n) k r) where
  pub stretch_asked : shown n l r (keyed n k) ≡ shown n l v (keyed n k)
  stretch_asked =
      stretch_answers s (read_row n) (keyed n k) (λ f other. rw (keyed_read n k f, ne_eqb (f (key_at n)) k other))

  pub stretch_among : among (keyed n k) (shown n l r) ≡ among (keyed n k) (shown n l v)
  stretch_among =
      fun_ext (λ (p : Row n → Bool). stretch_answers s (read_row n) (λ x. keyed n k x && p x) (λ f other. rw (keyed_read n k f, ne_eqb (f (key_at n)) k other)))

-- what step 2 asks of a row of 730 asks for the code too
pub unit_asked : {code : ℕ} {l : List ℕ} {v r : View} → Stretch l v (key_at T730) code r → (srtcde unit : ℕ) → shown T730 l r (unit_row srtcde code unit) ≡ shown T730 l v (unit_row srtcde code unit)
unit_asked {code} {l} {v} {r} s srtcde unit =
    ap (shown T730 l r) (unit_of_code srtcde code unit)
    ∙ ap (λ (t : (Row730 → Bool) → Hits Row730). t (of_unit srtcde unit)) (stretch_among T730 s)
    ∙ sym (ap (shown T730 l v) (unit_of_code srtcde code unit))
