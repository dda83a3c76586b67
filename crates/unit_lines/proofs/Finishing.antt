-- Finishing: no record, no room, or a last line. Assumes nothing.
use Prim.Native.Nat.{ℕ, ◌-◌, ◌<◌, ◌≤◌}
use mathlib.Core.Bool.{Bool, true, false, cond}
use mathlib.Core.List.{List, [], ◌∷◌, append-nil}
use mathlib.Core.Path.{◌≡◌, refl, sym, ap, ◌∙◌}
use mathlib.Core.Logic.{⊎_elim}
use native.Mathlib.Omega.{arith}
use native.Mathlib.Nat.{not-suc-le-zero}
use borrow.Author.Tests.{lt-ltb, le-ltb}
use lib.ListN.{length}
use lib.Dec.{ltb}
use Rattle.decimals.specs.Put.{Put}
use Rattle.decimals.proofs.Cases.{lt_or_ge}
use Rattle.unit_lines.specs.Records.{line_of, lines_of, unless_empty}
use Rattle.unit_lines.specs.Machine.{longest_line, last_line, text_of}
use Rattle.unit_lines.specs.Feeding.{no_room, finishing, Finishes}
use Rattle.unit_lines.specs.Listing.{written_by}
use Rattle.unit_lines.specs.declared.text.ListMachine.{ListMachine}
use Rattle.std.specs.Prelude.{Some, None, Ok, IsOk}
use Rattle.unit_lines.proofs.Longest.{longest}
use Rattle.unit_lines.proofs.Shrunk.{one_line}

same_either : (b : Bool) (l : List ℕ) → cond b l l ≡ l
same_either true l = refl
same_either false l = refl

no_record_line : (room : ℕ) (t : List ℕ) → length t ≡ 0 → last_line room t ≡ []
unfolding last_line lines_of
no_record_line room [] h = same_either (ltb room longest_line) []
no_record_line room (c ∷ t) h = absurd (let y : ⊥ = omega arith in y)

no_record : (room : ℕ) (t : List ℕ) → length t ≡ 0 → Ok None ≡ finishing room t
unfolding finishing
no_record room [] h = refl
no_record room (c ∷ t) h = absurd (let y : ⊥ = omega arith in y)

no_room_line : (room : ℕ) (t : List ℕ) → room < longest_line → last_line room t ≡ []
unfolding last_line
no_room_line room t h = rw (lt-ltb room longest_line h)

room_less : (room : ℕ) (t : List ℕ) → room < longest_line → 0 < length t → no_room ≡ finishing room t
unfolding finishing
room_less room [] h s = absurd (not-suc-le-zero s)
room_less room (c ∷ t) h s = rw (lt-ltb room longest_line h)

a_line_line : (room : ℕ) (t : List ℕ) → longest_line ≤ room → 0 < length t → last_line room t ≡ line_of t
unfolding last_line
a_line_line room t h s = rw (le-ltb room longest_line h) (one_line t s)

a_line : (room : ℕ) (t : List ℕ) → longest_line ≤ room → 0 < length t → finishing room t ≡ Ok (Some (length (line_of t)))
unfolding finishing
a_line room [] h s = absurd (not-suc-le-zero s)
a_line room (c ∷ t) h s = rw (le-ltb room longest_line h)

module _ (m : ListMachine) (old : List ℕ) (at : ℕ) where
  pub finish_none : length (text_of m) ≡ 0 → Finishes m old at old (Ok None)
  finish_none h = record { result = no_record (length old - at) (text_of m) h; bytes = rw (no_record_line (length old - at) (text_of m) h) }

  pub finish_full : length old - at < longest_line → 0 < length (text_of m) → Finishes m old at old no_room
  finish_full h s = record { result = room_less (length old - at) (text_of m) h s; bytes = rw (no_room_line (length old - at) (text_of m) h) }

  pub finish_line : (new : List ℕ) (end : ℕ) → longest_line ≤ length old - at → 0 < length (text_of m) → Put old at (line_of (text_of m)) new end → Finishes m old at new (Ok (Some (end - at)))
  finish_line new end h s p =
      let n : end - at ≡ length (line_of (text_of m)) = omega (arith, p.place) in
      record { result = ap (λ (k : ℕ). Ok (Some k)) n ∙ sym (a_line (length old - at) (text_of m) h s); bytes = rw (a_line_line (length old - at) (text_of m) h s) p.bytes }

pub last_longest : (t : List ℕ) → length (lines_of (unless_empty t)) ≤ longest_line
unfolding lines_of
last_longest [] = omega arith
last_longest (c ∷ t) = rw (append-nil (line_of (c ∷ t))) (longest (c ∷ t))

-- an answer that is not "no room": the line of the text, if it is one, was written
pub finished : (room : ℕ) (t : List ℕ) → (finishing room t ≡ no_room → ⊥)
    → (written_by (finishing room t) ≡ length (lines_of (unless_empty t))) × (last_line room t ≡ lines_of (unless_empty t)) × (length (lines_of (unless_empty t)) ≤ room)
unfolding finishing last_line lines_of
finished room [] n = (refl, same_either (ltb room longest_line) [], omega arith)
finished room (c ∷ t) n =
    ⊎_elim
    (λ (h : room < longest_line). absurd (n (rw (lt-ltb room longest_line h))))
    (λ (h : longest_line ≤ room).
    let e : length (line_of (c ∷ t)) ≡ length (lines_of (unless_empty (c ∷ t))) = ap length (sym (one_line (c ∷ t) (omega arith))) in
    (rw (le-ltb room longest_line h) e, rw (le-ltb room longest_line h), omega (arith, last_longest (c ∷ t))))
    (lt_or_ge room longest_line)

pub room_finishes : (room : ℕ) (t : List ℕ) → longest_line ≤ room → finishing room t ≡ no_room → ⊥
unfolding finishing
room_finishes room [] h e = cc
room_finishes room (c ∷ t) h e = let f = rw (le-ltb room longest_line h) at e in cc

pub room_enough : (room : ℕ) (t : List ℕ) → longest_line ≤ room → IsOk (finishing room t)
unfolding finishing
room_enough room [] h = refl
room_enough room (c ∷ t) h = rw (le-ltb room longest_line h)
