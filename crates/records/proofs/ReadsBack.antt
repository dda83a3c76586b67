-- Reading what was written gives the record back, whatever the file: the characters of every writable record, and those at the place in the buffer after every write that was done.
use Prim.Native.Nat.{ℕ}
use mathlib.Core.Bool.{true}
use mathlib.Core.List.{List}
use mathlib.Core.Path.{◌≡◌, ap, ◌∙◌}
use lib.ListN.{length}
use Rattle.records.specs.Digits.{chars}
use Rattle.records.specs.Layout.{said, read_by, total}
use Rattle.records.specs.File.{File, reading, writable, chars_of, writing, leaves}
use Rattle.records.proofs.LayoutLaws.{scan_spell}
use Rattle.records.proofs.Placed.{done_fits, done_there}

module _ {Record : Type 0} (f : File Record) where
  pub reads_back : (r : Record) → writable f r ≡ true → reading f (chars_of f r) ≡ said r
  unfolding reading writable chars_of
  reads_back r w = ap (read_by f.record_of) (scan_spell f.layout (f.values_of r) w) ∙ ap said (f.record_back r)

  module _ (r : Record) (at : ℕ) (old : List ℕ) (done : writing f r at (length old) ≡ 0) where
    pub done_writable : writable f r ≡ true
    unfolding writing writable
    done_writable = done_fits f.layout (f.values_of r) at old done

    pub leaves_there : chars (leaves f r at old) at (total f.layout) ≡ chars_of f r
    unfolding writing leaves chars_of
    leaves_there = done_there f.layout (f.values_of r) at old done

    pub reads_back_at : reading f (chars (leaves f r at old) at (total f.layout)) ≡ said r
    reads_back_at = rw leaves_there (reads_back r done_writable)
