-- What the program's two calls promise: the lines of the whole piece, and the line of a last record; and what a caller fetches. Assumes nothing.
use Rattle.std.specs.Prelude.{ℕ, ◌+◌, ◌*◌, ◌≤◌, List, [], ◌++◌, ◌≡◌, length, take, drop, Ok, Err}
use Rattle.std.specs.Option.{unwrap_or}
use Rattle.std.proofs.lemmas.List.Edits.{sets}
use Rattle.unit_lines.specs.Records.{lines_of, unless_empty}
use Rattle.unit_lines.specs.Machine.{longest_line, kept_most, go_on, keep, text_of}
use Rattle.unit_lines.specs.Feeding.{Feeds, Finished}
use Rattle.unit_lines.specs.declared.text.ListMachine.{ListMachine}
use Rattle.unit_lines.specs.declared.machine.Fed.{Fed}
use Rattle.unit_lines.specs.declared.listing.Piece.{Piece}

-- room for the lines of a piece of that length: six characters for each character held or in the piece (a CR LF alone has a line of twelve), and
-- a longest line, without which nothing is taken
abbrev pub room_for : ℕ → ℕ
room_for n = longest_line + 6 * (kept_most + n)

pub record Lists (m : ListMachine) (input old new : List ℕ) (r : Piece) : Type 0 where
  pub result : r ≡ record { machine = keep (go_on (text_of m) input).rest; written = length (lines_of (go_on (text_of m) input).ended) }
  pub bytes : new ≡ sets old 0 (lines_of (go_on (text_of m) input).ended)
  pub room : r.written ≤ length old

pub record Rests (m : ListMachine) (old new : List ℕ) (n : ℕ) : Type 0 where
  pub result : n ≡ length (lines_of (unless_empty (text_of m)))
  pub bytes : new ≡ sets old 0 (lines_of (unless_empty (text_of m)))
  pub room : n ≤ length old

-- the characters that a call wrote: so many of the buffer from a place on
abbrev pub fetched : List ℕ → ℕ → ℕ → List ℕ
fetched new at n = take n (drop at new)

-- how many characters finishing wrote
abbrev pub written_by : Finished → ℕ
written_by (Ok last) = unwrap_or last 0
written_by (Err e) = 0

-- A machine after any number of calls, by what they promise: the input taken so far and the lines fetched. `new_machine` comes first; then `feed`,
-- from any place of a piece into any buffer (a caller hands over again what a call left, or not: what was taken, in order, is the input), or
-- `list_piece`, which takes a whole piece.
pub data Listed : List ℕ → List ℕ → ListMachine → Type 0 where
  start : (m : ListMachine) → m ≡ keep [] → Listed [] [] m
  fed : {input output : List ℕ} {m : ListMachine} → Listed input output m
      → (s : List ℕ) (from : ℕ) (old : List ℕ) (at : ℕ) (new : List ℕ) (r : Fed) → Feeds m s from old at new r
      → Listed (input ++ take r.taken (drop from s)) (output ++ fetched new at r.written) r.machine
  piece : {input output : List ℕ} {m : ListMachine} → Listed input output m
      → (s old new : List ℕ) (r : Piece) → Lists m s old new r
      → Listed (input ++ s) (output ++ fetched new 0 r.written) r.machine
