-- What taking a call promises: the whole result, the line in the lent buffer, and the call's bytes afterwards. Assumes nothing.
use Rattle.std.specs.Prelude.{ℕ, ◌+◌, ◌≤◌, List, ◌≡◌, length, Some, None, Ok, Err}
use Rattle.std.proofs.lemmas.List.Edits.{sets}
use Rattle.call_lines.specs.Lines.{longest_line}
use Rattle.call_stream.specs.Calls.{Found, call_length, found}
use Rattle.call_stream.specs.Lines.{line_of, after}
use Rattle.call_stream.specs.declared.Taken.{Taken}
use Rattle.call_stream.specs.declared.Taken.TheVariants.{Answered, More, Broken}

-- how many bytes the call has, and where its line ends
unfoldable pub taken : Found → ℕ → Taken
taken (Ok (Some c)) end = Answered (record { call = call_length c; end = end })
taken (Ok None) end = More
taken (Err e) end = Broken end

pub record Takes (s old : List ℕ) (at : ℕ) (left new : List ℕ) (r : Taken) : Type 0 where
  pub result : r ≡ taken (found s) (at + length (line_of (found s) s))
  pub line : new ≡ sets old at (line_of (found s) s)
  pub bytes : left ≡ after (found s) s
  pub room : length (line_of (found s) s) ≤ longest_line
