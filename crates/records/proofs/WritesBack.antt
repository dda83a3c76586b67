-- Writing what was read gives the characters back, whatever the file: a record that was read is writable, and its characters are those that were read.
use Prim.Native.Nat.{ℕ, ◌+◌, ◌≤◌}
use mathlib.Core.Bool.{true}
use mathlib.Core.List.{List}
use mathlib.Core.Path.{◌≡◌, ap, sym, ◌∙◌}
use borrow.Author.Tests.{le-leb}
use lib.ListN.{length}
use Rattle.records.specs.Digits.{chars}
use Rattle.records.specs.Layout.{Values, Reading, said, refused, read_by, total, scan, answer, fits}
use Rattle.records.specs.File.{File, reading, writable, chars_of, writing, leaves}
use Rattle.records.proofs.LayoutLaws.{spell_scan}
use Rattle.records.proofs.ReadsBack.{leaves_there}

module _ {Record : Type 0} (f : File Record) where
  scanned : (x : Reading (Values f.layout)) (r : Record) → read_by f.record_of x ≡ said r → x ≡ said (f.values_of r)
  scanned (said v) r e =
      let q : f.record_of v ≡ r = cc in
      ap said (sym (f.values_back v)) ∙ ap (λ (x : Record). said (f.values_of x)) q
  scanned (refused n) r e = absurd cc

  module _ (s : List ℕ) (r : Record) (read : reading f s ≡ said r) where
    back : (fits f.layout (f.values_of r) ≡ true) × (◌≡◌ {A = List ℕ} (chars_of f r) s)
    unfolding reading chars_of
    back = spell_scan f.layout s (f.values_of r) (scanned (scan f.layout s) r read)

    pub read_writable : writable f r ≡ true
    unfolding writable
    read_writable = back.0

    pub writes_back : chars_of f r ≡ s
    writes_back = back.1

    -- where there is room, the writer does it, and leaves these characters at the place
    pub writes_back_at : (at : ℕ) (old : List ℕ) → at + total f.layout ≤ length old → (writing f r at (length old) ≡ 0) × (chars (leaves f r at old) at (total f.layout) ≡ s)
    unfolding writing answer writable
    writes_back_at at old h =
        let done : writing f r at (length old) ≡ 0 = rw (read_writable, le-leb (at + total f.layout) (length old) h) in
        (done, leaves_there f r at old done ∙ writes_back)
