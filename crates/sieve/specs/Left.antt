-- The rows that are left.
use Rattle.std.specs.Prelude.{ℕ, Bool, ◌&&◌, List}
use Rattle.guideline.specs.declared.rows.Row643.{Row643}
use Rattle.guideline.specs.declared.rows.TableName.TheVariants.{T643}
use Rattle.guideline.specs.declared.view.View.{View}
use Rattle.guideline.specs.Table.{Table, among}
use Rattle.guideline.specs.Rows.{keyed}
use Rattle.cells.specs.declared.row.TableRow.{Ghosts}
use Rattle.cells.specs.Lents.{shown, row_at}
use Rattle.keys.specs.declared.rows.KeyRows.{KeyRows}
use Rattle.sieve.specs.declared.left.Left.{Left}
use Rattle.sieve.specs.declared.settled.Settled.{Settled}
use Rattle.sieve.specs.Settled.{settled643}

-- the rows of a category, in a view, that pass what is settled
unfoldable pub kept_in : List ℕ → View → ℕ → Settled → Table Row643
kept_in l v category s = among (settled643 s) (among (keyed T643 category) (shown T643 l v))

abbrev pub kept_of : {R : Ghosts Row643} → KeyRows Row643 R → Settled → Table Row643
kept_of r s = kept_in r.bytes.now r.view r.key s

abbrev pub kept : Left → Table Row643
kept s = kept_in s.rows.bytes.now s.rows.view s.rows.key s.settled

-- the category, what is settled, and a property more
abbrev pub passing_in : List ℕ → View → ℕ → Settled → (Row643 → Bool) → ℕ → Bool
passing_in l v category s p i =
    keyed T643 category (row_at T643 l v i) && (settled643 s (row_at T643 l v i) && p (row_at T643 l v i))

abbrev pub passing_of : {R : Ghosts Row643} → KeyRows Row643 R → Settled → (Row643 → Bool) → ℕ → Bool
passing_of r s p = passing_in r.bytes.now r.view r.key s p

abbrev pub passing : Left → (Row643 → Bool) → ℕ → Bool
passing s p = passing_in s.rows.bytes.now s.rows.view s.rows.key s.settled p
