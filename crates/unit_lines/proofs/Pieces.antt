-- With room enough all of a piece is taken, since no record has a line of more than six times its characters, and the last line is written. Assumes nothing.
use Prim.Native.Nat.{ℕ, ◌+◌, ◌-◌, ◌*◌, ◌<◌, ◌≤◌}
use mathlib.Core.Bool.{true, false}
use mathlib.Core.List.{List, [], ◌∷◌, ◌++◌}
use mathlib.Core.Path.{◌≡◌, ap, ◌∙◌}
use mathlib.Core.Logic.{⊎_elim}
use native.Mathlib.Omega.{arith}
use lib.ListN.{length, take, length-append}
use lib.Seq.{sets, take_all, length-take-le}
use Rattle.decimals.specs.Decimal.{line_feed}
use Rattle.decimals.proofs.Cases.{true_or_false, lt_or_ge}
use Rattle.decimals.proofs.Decimal.{field_most}
use Rattle.unit_line.proofs.Pieces.{length_refused}
use Rattle.unit_lines.specs.Records.{crlf, line_of, lines_of, unless_empty}
use Rattle.unit_lines.specs.Machine.{last_of, but_last, go_on, longest_line, run, kept_most, keep, text_of}
use Rattle.unit_lines.specs.Feeding.{Feeds, Finished, Finishes}
use Rattle.unit_lines.specs.Listing.{room_for, Lists, Rests, written_by}
use Rattle.unit_lines.specs.declared.text.ListMachine.{ListMachine}
use Rattle.unit_lines.specs.declared.machine.Fed.{Fed}
use Rattle.unit_lines.proofs.Finishing.{finished, room_finishes}
use Rattle.unit_lines.proofs.Longest.{longest}
use Rattle.unit_lines.proofs.Run.{run_none_left, run_ends, run_more, run_taken}
use Rattle.unit_lines.proofs.Shrunk.{line_length}

-- the text has its CR, and the LF is one character more
line_short : (t : List ℕ) → 1 ≤ length t → length (line_of (but_last t)) ≤ 6 * (length t + 1)
line_short t h =
    let l : length (but_last t) ≡ length t - 1 = length-take-le (length t - 1) t (omega arith) in
    let other : (length (but_last t) ≡ 64 → ⊥) → length (line_of (but_last t)) ≤ 6 * (length t + 1) =
    λ n. rw (line_length (but_last t) n) (omega (arith, length_refused 201, field_most 2 201 line_feed (omega arith))) in
    ⊎_elim
    (λ (a : length (but_last t) < 64). other (λ e. omega arith))
    (λ (a : 64 ≤ length (but_last t)).
    ⊎_elim
    (λ (b : 64 < length (but_last t)). other (λ e. omega arith))
    (λ (b : length (but_last t) ≤ 64). omega (arith, longest (but_last t)))
    (lt_or_ge 64 (length (but_last t))))
    (lt_or_ge (length (but_last t)) 64)

ends_text : (t : List ℕ) (c : ℕ) → crlf (last_of t) c ≡ true → 1 ≤ length t
ends_text [] c e = absurd (let z : ◌≡◌ {A = ℕ} 0 1 = cc in let y : ⊥ = omega arith in y)
ends_text (a ∷ t) c e = omega arith

pub run_all : (room : ℕ) (t s : List ℕ) → longest_line + 6 * (length t + length s) ≤ room → (run room t s).taken ≡ length s
run_all room t [] h = rw (run_none_left room t)
run_all room t (c ∷ s) h =
    ⊎_elim
    (λ (e : crlf (last_of t) c ≡ true).
    let w = line_short t (ends_text t c e) in
    let i = run_all (room - length (line_of (but_last t))) [] s (omega arith) in
    rw (run_ends room t c s (omega arith) e) (omega arith))
    (λ (e : crlf (last_of t) c ≡ false).
    let i = run_all room (t ++ (c ∷ [])) s (rw (length-append t (c ∷ [])) (omega arith)) in
    rw (run_more room t c s (omega arith) e) (omega arith))
    (true_or_false (crlf (last_of t) c))

-- feeding a whole piece into a buffer with room for it
pub lists : {m : ListMachine} {input old new : List ℕ} {f : Fed} → length (text_of m) ≤ kept_most → room_for (length input) ≤ length old → Feeds m input 0 old 0 new f → Lists m input old new (record { machine = f.machine; written = f.written })
lists {m} {input} {old} {new} {f} k h p =
    let r = run (length old - 0) (text_of m) input in
    let a : r.taken ≡ length input = run_all (length old - 0) (text_of m) input (omega arith) in
    let t = run_taken (length old - 0) (text_of m) input in
    let i : take r.taken input ≡ input = rw a (take_all (length input) input (omega arith)) in
    let w : r.written ≡ lines_of (go_on (text_of m) input).ended = rw i at t.written in
    let g : r.held ≡ (go_on (text_of m) input).rest = rw i at t.held in
    let e : f ≡ record { machine = keep r.held; taken = r.taken; written = length r.written } = p.result in
    record {
      result = ap (λ (x : Fed). record { machine = x.machine; written = x.written }) e ∙ rw (w, g);
      bytes = rw (← w) p.bytes;
      room = omega (arith, p.room);
    }

-- finishing into a buffer with room for a line
pub rests : {m : ListMachine} {old new : List ℕ} {f : Finished} → longest_line ≤ length old → Finishes m old 0 new f → (n : ℕ) → n ≡ written_by f → Rests m old new n
rests {m} {old} {new} {f} h p n e =
    let q = finished (length old - 0) (text_of m) (room_finishes (length old - 0) (text_of m) (omega arith)) in
    let g : n ≡ length (lines_of (unless_empty (text_of m))) = e ∙ (ap written_by p.result ∙ q.0) in
    record { result = g; bytes = p.bytes ∙ ap (sets old 0) q.1; room = omega (arith, q.2) }
