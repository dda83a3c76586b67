-- What feeding and finishing promise: the whole result, and the whole final content of the lent buffer. Assumes nothing.
use Rattle.std.specs.Prelude.{ℕ, ◌+◌, ◌-◌, ◌≤◌, cond, List, [], ◌∷◌, ◌≡◌, length, take, drop, ltb, Option, Some, None, Result, Ok, Err}
use Rattle.std.proofs.lemmas.List.Edits.{sets}
use Rattle.unit_lines.specs.Records.{line_of}
use Rattle.unit_lines.specs.Machine.{longest_line, Run, run, last_line, keep, text_of}
use Rattle.unit_lines.specs.declared.text.ListMachine.{ListMachine}
use Rattle.unit_lines.specs.declared.machine.Fed.{Fed}
use Rattle.unit_lines.specs.declared.machine.NoRoom.{NoRoom}
use Rattle.unit_lines.specs.declared.machine.Moved.{Moved}

-- the machine fed with the input from a place on, into the buffer from a place on
abbrev pub feeding : ListMachine → List ℕ → ℕ → List ℕ → ℕ → Run
feeding m input from old at = run (length old - at) (text_of m) (drop from input)

pub record Feeds (m : ListMachine) (input : List ℕ) (from : ℕ) (old : List ℕ) (at : ℕ) (new : List ℕ) (r : Fed) : Type 0 where
  pub result : r ≡ record { machine = keep (feeding m input from old at).held; taken = (feeding m input from old at).taken; written = length (feeding m input from old at).written }
  pub bytes : new ≡ sets old at (feeding m input from old at).written
  pub room : r.written ≤ length old - at

-- what finishing answers: how many characters the last line has, if there is one, or that there is no room for it
abbrev pub Finished : Type 0
Finished = Result (Option ℕ) NoRoom

abbrev pub no_room : Finished
no_room = Err (record {})

-- by the room and the text held
unfoldable pub finishing : ℕ → List ℕ → Finished
finishing room [] = Ok None
finishing room (c ∷ t) = cond (ltb room longest_line) no_room (Ok (Some (length (line_of (c ∷ t)))))

pub record Finishes (m : ListMachine) (old : List ℕ) (at : ℕ) (new : List ℕ) (r : Finished) : Type 0 where
  pub result : r ≡ finishing (length old - at) (text_of m)
  pub bytes : new ≡ sets old at (last_line (length old - at) (text_of m))

-- a run over whole records that lie in the input: up to `stop`, with the text from `next` to `stop` held and the lines up to `end` written
pub record Moves (r : Run) (input : List ℕ) (from : ℕ) (old : List ℕ) (at : ℕ) (new : List ℕ) (m : Moved) : Type 0 where
  pub next : m.next ≤ m.stop
  pub stop : m.stop ≤ length input
  pub taken : m.stop ≡ from + r.taken
  pub held : r.held ≡ take (m.stop - m.next) (drop m.next input)
  pub written : m.end ≡ at + length r.written
  pub room : m.end ≤ length old
  pub bytes : new ≡ sets old at r.written
