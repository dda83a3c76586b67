-- A lent table as one table of rows. The rows of a key, as they are lent: the row at a place, whether a test lets it pass, and what is asked of them.
use Rattle.std.specs.Prelude.{ℕ, Bool, ◌&&◌}
use Rattle.guideline.specs.Table.{Table, among}
use Rattle.guideline.specs.Bytes.{cell}
use Rattle.cells.specs.declared.row.TableRow.{Ghosts}
use Rattle.cells.specs.Lents.{shown_by}
use Rattle.cells.specs.Views.{by_width}
use Rattle.keys.specs.declared.lent.Lent.{Lent}
use Rattle.keys.specs.declared.rows.KeyRows.{KeyRows}

abbrev pub row_of : {A : Type 0} {R : Ghosts A} → KeyRows A R → ℕ → A
row_of {A} {R} r i = R.read (cell r.bytes.now r.view i)

-- has the row at a place the key, and a property
abbrev pub hit_of : {A : Type 0} {R : Ghosts A} → KeyRows A R → (A → Bool) → ℕ → Bool
hit_of {A} {R} r p i = R.keyed r.key (row_of r i) && p (row_of r i)

abbrev pub key_rows : {A : Type 0} {R : Ghosts A} → KeyRows A R → Table A
key_rows {A} {R} r = among (R.keyed r.key) (shown_by R.read r.bytes.now r.view)

-- all rows of a lent table
abbrev pub lent_rows : {A : Type 0} {R : Ghosts A} → Lent A R → Table A
lent_rows {A} {R} t = shown_by R.read t.bytes.now (by_width R.WIDTH t.bytes.now)
