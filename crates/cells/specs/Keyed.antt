-- A row has the key that its number at the key's place is.
use Rattle.std.specs.Prelude.{ℕ, ◌≡◌, refl, eqb}
use Rattle.guideline.specs.declared.rows.TableName.{TableName}
use Rattle.guideline.specs.declared.rows.TableName.TheVariants.{T640, T641, T642, T643, T649, T730, T070}
use Rattle.guideline.specs.Rows.{read_row, keyed}
use Rattle.cells.specs.Lents.{key_at}

pub keyed_read : (n : TableName) (k : ℕ) (f : ℕ → ℕ) → keyed n k (read_row n f) ≡ eqb (f (key_at n)) k
unfolding keyed
keyed_read T640 k f = refl
keyed_read T641 k f = refl
keyed_read T642 k f = refl
keyed_read T643 k f = refl
keyed_read T649 k f = refl
keyed_read T730 k f = refl
keyed_read T070 k f = refl
