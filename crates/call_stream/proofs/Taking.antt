-- What taking a call promises, from what was found and what was written for it. Assumes nothing.
use Prim.Native.Nat.{ℕ, ◌+◌, ◌≤◌, ◌<◌}
use mathlib.Core.List.{List}
use mathlib.Core.Path.{◌≡◌, ◌∙◌}
use native.Mathlib.Omega.{arith}
use lib.ListN.{length}
use Rattle.std.specs.Prelude.{Some, None, Ok, Err}
use Rattle.decimals.specs.Put.{Put}
use Rattle.call_lines.specs.Lines.{longest_line}
use Rattle.call_stream.specs.Calls.{longest_call, Found, found}
use Rattle.call_stream.specs.Lines.{line_of, after}
use Rattle.call_stream.specs.Takes.{taken, Takes}
use Rattle.call_stream.specs.declared.Taken.{Taken}
use Rattle.call_stream.specs.declared.Taken.TheVariants.{Answered, More, Broken}
use Rattle.call_stream.proofs.Finding.{Bounded, bounded}

module _ (s : List ℕ) (f : Found) (r : Found) (e : r ≡ found s) (is : r ≡ f) where
  found_is : found s ≡ f
  found_is = rw (← e) is

  pub within : Bounded (length s) f
  within = rw found_is at (bounded s)

  pub takes : (old left new : List ℕ) (at end : ℕ) (t : Taken) → Put old at (line_of f s) new end → end ≤ at + longest_line → left ≡ after f s → t ≡ taken f end → Takes s old at left new t
  takes old left new at end t p m l q =
      record {
        result = q ∙ rw (found_is, p.place);
        line = rw found_is p.bytes;
        bytes = rw found_is l;
        room = rw found_is (omega (arith, p.place));
      }

-- what is taken lies inside the bytes and the line inside its room, and a part of a call is shorter than the longest
abbrev pub Inside : ℕ → ℕ → Taken → Type 0
Inside have room (Answered p) = (p.call ≤ have) × (p.end ≤ room)
Inside have room More = have < longest_call
Inside have room (Broken end) = end ≤ room

inside_taken : (f : Found) (have end room : ℕ) → Bounded have f → end ≤ room → Inside have room (taken f end)
unfolding taken
inside_taken (Ok (Some c)) have end room b e = (b.0, e)
inside_taken (Ok None) have end room b e = b
inside_taken (Err x) have end room b e = e

pub inside : {s old left new : List ℕ} {at : ℕ} {t : Taken} → Takes s old at left new t → Inside (length s) (at + longest_line) t
inside {s} {old} {left} {new} {at} {t} p = rw p.result (inside_taken (found s) (length s) (at + length (line_of (found s) s)) (at + longest_line) (bounded s) (omega (arith, p.room)))
