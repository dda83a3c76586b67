-- What is demanded of a file's reader and writer, as one list. It holds of every file.
use Prim.Native.Nat.{ℕ, ◌+◌, ◌≤◌}
use mathlib.Core.Bool.{true}
use mathlib.Core.List.{List}
use mathlib.Core.Path.{◌≡◌}
use lib.ListN.{length, take, drop}
use Rattle.records.specs.Digits.{chars}
use Rattle.records.specs.Layout.{said, refused, total}
use Rattle.records.specs.File.{File, reading, writable, chars_of, writing, leaves}
use Rattle.records.proofs.Bounds as bounds
use Rattle.records.proofs.ReadsBack as reads
use Rattle.records.proofs.WritesBack as writes
use Rattle.records.proofs.SameSets as same
use Rattle.records.proofs.RefusalsLeave as refusals

-- a file whose records have so many characters
pub record Holds {Record : Type 0} (f : File Record) (size : ℕ) : Type 0 where
  -- reading what was written gives the record back, also from its place in the buffer
  pub reads_back : (r : Record) → writable f r ≡ true → reading f (chars_of f r) ≡ said r
  pub reads_back_at : (r : Record) (at : ℕ) (old : List ℕ) → writing f r at (length old) ≡ 0 → reading f (chars (leaves f r at old) at size) ≡ said r
  -- writing what was read gives the characters back, also at a place of a buffer with room
  pub writes_back : (s : List ℕ) (r : Record) → reading f s ≡ said r → chars_of f r ≡ s
  pub writes_back_at : (s : List ℕ) (r : Record) → reading f s ≡ said r → (at : ℕ) (old : List ℕ) → at + size ≤ length old → (writing f r at (length old) ≡ 0) × (chars (leaves f r at old) at size ≡ s)
  -- what is read is what is written
  pub read_is_written : (s : List ℕ) → same.IsRead f s → same.IsWritten f s
  pub written_is_read : (s : List ℕ) → same.IsWritten f s → same.IsRead f s
  -- a refused write leaves the buffer as it was
  pub too_wide_leaves : (r : Record) (at : ℕ) (old : List ℕ) → writing f r at (length old) ≡ 205 → leaves f r at old ≡ old
  pub no_room_leaves : (r : Record) (at : ℕ) (old : List ℕ) → writing f r at (length old) ≡ 206 → leaves f r at old ≡ old
  -- a write that is done touches nothing before its characters and nothing behind them
  pub done_before : (r : Record) (at : ℕ) (old : List ℕ) → writing f r at (length old) ≡ 0 → take at (leaves f r at old) ≡ take at old
  pub done_after : (r : Record) (at : ℕ) (old : List ℕ) → writing f r at (length old) ≡ 0 → drop (at + size) (leaves f r at old) ≡ drop (at + size) old
  -- a refusal to read is 201, 202, 203 or 204
  pub refusal_bounds : (s : List ℕ) (n : ℕ) → reading f s ≡ refused n → (201 ≤ n) × (n ≤ 204)

pub every_file : {Record : Type 0} (f : File Record) → Holds f (total f.layout)
every_file f =
    record {
      reads_back = reads.reads_back f;
      reads_back_at = reads.reads_back_at f;
      writes_back = writes.writes_back f;
      writes_back_at = writes.writes_back_at f;
      read_is_written = same.read_is_written f;
      written_is_read = same.written_is_read f;
      too_wide_leaves = refusals.too_wide_leaves f;
      no_room_leaves = refusals.no_room_leaves f;
      done_before = refusals.done_before f;
      done_after = refusals.done_after f;
      refusal_bounds = bounds.refusal_bounds f;
    }
