-- The two sets match exactly, whatever the file: a slice is read as a record if and only if it is what some writable record writes.
use Prim.Native.Nat.{ℕ}
use mathlib.Core.Bool.{true}
use mathlib.Core.List.{List}
use mathlib.Core.Path.{◌≡◌, ap, sym, ◌∙◌}
use Rattle.records.specs.Layout.{said}
use Rattle.records.specs.File.{File, reading, writable, chars_of}
use Rattle.records.proofs.ReadsBack.{reads_back}
use Rattle.records.proofs.WritesBack.{read_writable, writes_back}

pub record IsRead {Record : Type 0} (f : File Record) (s : List ℕ) : Type 0 where
  pub of : Record
  pub read : reading f s ≡ said of

pub record IsWritten {Record : Type 0} (f : File Record) (s : List ℕ) : Type 0 where
  pub of : Record
  pub fits : writable f of ≡ true
  pub wrote : chars_of f of ≡ s

module _ {Record : Type 0} (f : File Record) (s : List ℕ) where
  pub read_is_written : IsRead f s → IsWritten f s
  read_is_written x = record { of = x.of; fits = read_writable f s x.of x.read; wrote = writes_back f s x.of x.read }

  pub written_is_read : IsWritten f s → IsRead f s
  written_is_read x = record { of = x.of; read = ap (reading f) (sym x.wrote) ∙ reads_back f x.of x.fits }
