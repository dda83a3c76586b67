-- Feeding, a record at a time: the laws of the machine's loop; and feeding as the split of what was taken. Assumes nothing.
use Prim.Native.Nat.{ℕ, suc, ◌+◌, ◌-◌, ◌<◌, ◌≤◌}
use mathlib.Core.Bool.{true, false}
use mathlib.Core.List.{List, [], ◌∷◌, ◌++◌, append_assoc, append-nil}
use mathlib.Core.Path.{◌≡◌, refl, ap, ◌∙◌}
use mathlib.Core.Logic.{⊎_elim}
use native.Mathlib.Omega.{arith}
use native.Mathlib.Nat.{not-suc-le-zero}
use native.Mathlib.Numerals.{one-add}
use borrow.Author.Tests.{lt-ltb, le-ltb}
use lib.ListN.{length, take, drop}
use Rattle.unit_lines.specs.Records.{crlf, line_of, lines_of}
use Rattle.unit_lines.specs.Machine.{last_of, but_last, go_on, end_in, longest_line, Run, stopped, after, run}
use Rattle.decimals.proofs.Cases.{true_or_false, lt_or_ge}
use Rattle.unit_lines.proofs.GoOn.{last_added, go_end, go_more}

pub run_full : (room : ℕ) (t s : List ℕ) → room < longest_line → run room t s ≡ stopped t
unfolding run
run_full room t [] h = refl
run_full room t (c ∷ s) h = rw (lt-ltb room longest_line h)

pub run_none_left : (room : ℕ) (t : List ℕ) → run room t [] ≡ stopped t
unfolding run
run_none_left room t = refl

pub run_ends : (room : ℕ) (t : List ℕ) (c : ℕ) (s : List ℕ) → longest_line ≤ room → crlf (last_of t) c ≡ true → run room t (c ∷ s) ≡ after 1 (line_of (but_last t)) (run (room - length (line_of (but_last t))) [] s)
unfolding run
run_ends room t c s h e = rw (le-ltb room longest_line h, e)

pub run_more : (room : ℕ) (t : List ℕ) (c : ℕ) (s : List ℕ) → longest_line ≤ room → crlf (last_of t) c ≡ false → run room t (c ∷ s) ≡ after 1 [] (run room (t ++ (c ∷ [])) s)
unfolding run
run_more room t c s h e = rw (le-ltb room longest_line h, e)

after_after : (k : ℕ) (l : List ℕ) (r : Run) → after 1 [] (after (suc k) l r) ≡ after (suc (suc k)) l r
after_after k l r =
    let e : 1 + (suc k + r.taken) ≡ suc (suc k) + r.taken = omega arith in
    rw e

pub end_here : (p c : ℕ) (s : List ℕ) → crlf p c ≡ true → end_in p (c ∷ s) ≡ 0
unfolding end_in
end_here p c s e = rw e

pub end_on : (p c : ℕ) (s : List ℕ) → crlf p c ≡ false → end_in p (c ∷ s) ≡ suc (end_in c s)
unfolding end_in
end_on p c s e = rw e

module _ (room : ℕ) (h : longest_line ≤ room) where
  -- no CR LF: all is taken and held
  pub run_none : (t s : List ℕ) → end_in (last_of t) s ≡ length s → run room t s ≡ record { taken = length s; written = []; held = t ++ s }
  unfolding run end_in
  run_none t [] e = rw (append-nil t)
  run_none t (c ∷ s) e =
      ⊎_elim
      (λ (f : crlf (last_of t) c ≡ true). absurd (let z : 0 ≡ suc (length s) = rw f at e in let y : ⊥ = omega arith in y))
      (λ (f : crlf (last_of t) c ≡ false).
      let z : suc (end_in c s) ≡ suc (length s) = rw f at e in
      let i : end_in (last_of (t ++ (c ∷ []))) s ≡ length s = rw (last_added t c) (omega arith) in
      run_more room t c s h f ∙ rw (run_none (t ++ (c ∷ [])) s i, append_assoc t (c ∷ []) s, one-add (length s)))
      (true_or_false (crlf (last_of t) c))

  -- the first CR LF: a record's line, and on from no text
  pub run_end : (t s : List ℕ) → end_in (last_of t) s < length s
      → run room t s ≡ after (suc (end_in (last_of t) s)) (line_of (but_last (t ++ take (end_in (last_of t) s) s)))
      (run (room - length (line_of (but_last (t ++ take (end_in (last_of t) s) s)))) [] (drop (suc (end_in (last_of t) s)) s))
  run_end t [] e = absurd (not-suc-le-zero e)
  run_end t (c ∷ s) e =
      ⊎_elim
      (λ (f : crlf (last_of t) c ≡ true). rw (end_here (last_of t) c s f, append-nil t) (run_ends room t c s h f))
      (λ (f : crlf (last_of t) c ≡ false).
      let z : suc (end_in c s) < suc (length s) = rw (end_on (last_of t) c s f) at e in
      let i : end_in (last_of (t ++ (c ∷ []))) s < length s = rw (last_added t c) (omega arith) in
      let j = rw (last_added t c, append_assoc t (c ∷ []) (take (end_in c s) s)) at (run_end (t ++ (c ∷ [])) s i) in
      let l : List ℕ = line_of (but_last (t ++ (c ∷ take (end_in c s) s))) in
      rw (end_on (last_of t) c s f) (run_more room t c s h f ∙ rw j (after_after (end_in c s) l (run (room - length l) [] (drop (suc (end_in c s)) s)))))
      (true_or_false (crlf (last_of t) c))

-- what was taken, split as in document 01: the lines written are those of the texts ended, and the rest is held
pub record Taken (t s : List ℕ) (r : Run) : Type 0 where
  pub fits : r.taken ≤ length s
  pub written : r.written ≡ lines_of (go_on t (take r.taken s)).ended
  pub held : r.held ≡ (go_on t (take r.taken s)).rest

taken_none : (t s : List ℕ) → Taken t s (stopped t)
unfolding go_on lines_of
taken_none t s = record { fits = omega arith; written = refl; held = refl }

one_ends : (t : List ℕ) (c : ℕ) (s : List ℕ) (r : Run) → crlf (last_of t) c ≡ true → Taken [] s r → Taken t (c ∷ s) (after 1 (line_of (but_last t)) r)
unfolding lines_of
one_ends t c s r e h =
    let f = go_end t c (take r.taken s) e in
    record {
      fits = omega (arith, h.fits);
      written = rw (one-add r.taken, f) (ap (λ (l : List ℕ). line_of (but_last t) ++ l) h.written);
      held = rw (one-add r.taken, f) h.held;
    }

one_more : (t : List ℕ) (c : ℕ) (s : List ℕ) (r : Run) → crlf (last_of t) c ≡ false → Taken (t ++ (c ∷ [])) s r → Taken t (c ∷ s) (after 1 [] r)
one_more t c s r e h =
    let f = go_more t c (take r.taken s) e in
    record {
      fits = omega (arith, h.fits);
      written = rw (one-add r.taken, f) h.written;
      held = rw (one-add r.taken, f) h.held;
    }

pub run_taken : (room : ℕ) (t s : List ℕ) → Taken t s (run room t s)
run_taken room t [] = rw (run_none_left room t) (taken_none t [])
run_taken room t (c ∷ s) =
    ⊎_elim
    (λ (f : room < longest_line). rw (run_full room t (c ∷ s) f) (taken_none t (c ∷ s)))
    (λ (h : longest_line ≤ room).
    ⊎_elim
    (λ (e : crlf (last_of t) c ≡ true). rw (run_ends room t c s h e) (one_ends t c s (run (room - length (line_of (but_last t))) [] s) e (run_taken (room - length (line_of (but_last t))) [] s)))
    (λ (e : crlf (last_of t) c ≡ false). rw (run_more room t c s h e) (one_more t c s (run room (t ++ (c ∷ [])) s) e (run_taken room (t ++ (c ∷ [])) s)))
    (true_or_false (crlf (last_of t) c)))
    (lt_or_ge room longest_line)

-- with room for a line, feeding moves on
pub run_moves : (room : ℕ) (t s : List ℕ) → longest_line ≤ room → 0 < length s → 1 ≤ (run room t s).taken
run_moves room t [] h i = absurd (not-suc-le-zero i)
run_moves room t (c ∷ s) h i =
    ⊎_elim
    (λ (e : crlf (last_of t) c ≡ true). rw (run_ends room t c s h e) (omega arith))
    (λ (e : crlf (last_of t) c ≡ false). rw (run_more room t c s h e) (omega arith))
    (true_or_false (crlf (last_of t) c))
