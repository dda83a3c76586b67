-- A file of document 004: its layout and the record that holds its numbers; reading and writing by it, whatever the file. Assumes nothing.
use Rattle.std.specs.Prelude.{ℕ, Bool, List, ◌≡◌}
use Rattle.records.specs.Layout.{Part, Values, Reading, read_by, scan, fits, spell, answer, leaving}

-- the record is the layout's values under the file's names: neither has more than the other
pub record File (Record : Type 0) : Type 0 where
  pub layout : List Part
  pub record_of : Values layout → Record
  pub values_of : Record → Values layout
  pub values_back : (v : Values layout) → values_of (record_of v) ≡ v
  pub record_back : (r : Record) → record_of (values_of r) ≡ r

module _ {Record : Type 0} (f : File Record) where
  -- the record that the characters say, or 201, 202, 203, 204 in that order
  unfoldable pub reading : List ℕ → Reading Record
  reading s = read_by f.record_of (scan f.layout s)

  -- no number too wide, and the mutation digit at most 3
  unfoldable pub writable : Record → Bool
  writable r = fits f.layout (f.values_of r)

  -- the characters of a record
  unfoldable pub chars_of : Record → List ℕ
  chars_of r = spell f.layout (f.values_of r)

  -- what writing at a place answers, by the buffer's length: 0, or 205 before 206
  unfoldable pub writing : Record → ℕ → ℕ → ℕ
  writing r at room = answer f.layout (f.values_of r) at room

  -- what it leaves in the buffer
  unfoldable pub leaves : Record → ℕ → List ℕ → List ℕ
  leaves r at old = leaving f.layout (f.values_of r) at old
