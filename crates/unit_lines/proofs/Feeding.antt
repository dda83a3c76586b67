-- Feeding: nothing taken, a text that goes on, or the record that has begun and then whole ones. Assumes nothing.
use Prim.Native.Nat.{ℕ, suc, ◌+◌, ◌-◌, ◌<◌, ◌≤◌}
use mathlib.Core.List.{List, [], ◌∷◌, ◌++◌, append-nil}
use mathlib.Core.Path.{◌≡◌, refl, sym, ap, ◌∙◌}
use mathlib.Core.Logic.{⊎_elim}
use native.Mathlib.Omega.{arith}
use lib.ListN.{length, take, drop, length-append, length-drop, drop_of_length-le}
use lib.Seq.{sets, length-take-le, take_all, drop-drop}
use Rattle.decimals.specs.Put.{Put}
use Rattle.unit_lines.specs.Records.{line_of}
use Rattle.unit_lines.specs.Machine.{last_of, but_last, end_in, end_from, longest_line, Run, stopped, after, shrunk, keep, text_of}
use Rattle.unit_lines.specs.Feeding.{feeding, Feeds, Moves}
use Rattle.unit_lines.specs.declared.text.ListMachine.{ListMachine}
use Rattle.unit_lines.specs.declared.machine.Fed.{Fed}
use Rattle.unit_lines.specs.declared.machine.Moved.{Moved}
use Rattle.decimals.proofs.Cases.{lt_or_ge}
use Rattle.decimals.proofs.Puts.{put_on}
use Rattle.unit_lines.proofs.Run.{run_full, run_none_left, run_none, run_end}
use Rattle.std.specs.Prelude.{Some, None}
use Rattle.unit_lines.proofs.Ends.{end_first, end_is, no_end}
use Rattle.unit_lines.proofs.Shrunk.{shrunk_short, shrunk_long, kept_text, line_shrunk}
use Rattle.unit_lines.proofs.Kept.{last_none, keep_more}
use Rattle.unit_lines.proofs.Whole.{run_from, put_length}

-- what a run says is what a call promises
feeds : (m : ListMachine) (input : List ℕ) (from : ℕ) (old : List ℕ) (at : ℕ) (new : List ℕ) (f : Fed) (r : Run)
    → feeding m input from old at ≡ r → f ≡ record { machine = keep r.held; taken = r.taken; written = length r.written } → new ≡ sets old at r.written → f.written ≤ length old - at
    → Feeds m input from old at new f
feeds m input from old at new f r e g b w = record { result = rw e g; bytes = rw e b; room = w }

pub feeds_nothing : (m : ListMachine) (input : List ℕ) (from : ℕ) (old : List ℕ) (at : ℕ) (k : ListMachine) → feeding m input from old at ≡ stopped (text_of m) → k ≡ keep (text_of m ++ [])
    → Feeds m input from old at old (record { machine = k; taken = 0; written = 0 })
feeds_nothing m input from old at k e g = feeds m input from old at old (record { machine = k; taken = 0; written = 0 }) (stopped (text_of m)) e (rw (g, append-nil (text_of m))) refl (omega arith)

pub past_input : (m : ListMachine) (input : List ℕ) (from : ℕ) (old : List ℕ) (at : ℕ) → length input < from → feeding m input from old at ≡ stopped (text_of m)
past_input m input from old at h =
    let i : length input ≤ from = omega arith in
    rw (drop_of_length-le input i) (run_none_left (length old - at) (text_of m))

pub no_room : (m : ListMachine) (input : List ℕ) (from : ℕ) (old : List ℕ) (at : ℕ) → length old - at < longest_line → feeding m input from old at ≡ stopped (text_of m)
no_room m input from old at h = run_full (length old - at) (text_of m) (drop from input) h

some_text : (t s : List ℕ) → end_in (last_of t) s < length s → 0 < length (t ++ take (end_in (last_of t) s) s)
some_text t s h =
    let k = end_in (last_of t) s in
    let l : length (t ++ take k s) ≡ length t + k = rw (length-append t (take k s), length-take-le k s (omega arith)) in
    ⊎_elim
    (λ (a : 0 < length t). omega arith)
    (λ (a : length t ≤ 0).
    let z : last_of t ≡ 0 = last_none t (omega arith) in
    let f : 0 < end_in (last_of t) s = rw z (end_first s (omega arith)) in
    omega arith)
    (lt_or_ge 0 (length t))

some_kept : (t : List ℕ) → 0 < length t → 0 < length (shrunk t)
some_kept t h =
    ⊎_elim
    (λ (a : 66 < length t). rw (shrunk_long t a, length-append (take 65 t) (last_of t ∷ [])) (omega arith))
    (λ (a : length t ≤ 66). rw (shrunk_short t a) h)
    (lt_or_ge 66 (length t))

module _ (m : ListMachine) (input : List ℕ) (from : ℕ) (old : List ℕ) (at : ℕ) (inside : from ≤ length input) (room : longest_line ≤ length old - at) where
  -- no record ends
  pub feeds_text : (k : ListMachine) → end_from (last_of (text_of m)) input from ≡ None → k ≡ keep (text_of m ++ take (length input - from) (drop from input))
      → Feeds m input from old at old (record { machine = k; taken = length input - from; written = 0 })
  feeds_text k none g =
      let s = drop from input in
      let n = length-drop from input in
      let l : length input - from ≡ length s = omega arith in
      let e = no_end (last_of (text_of m)) input from inside none in
      feeds m input from old at old (record { machine = k; taken = length input - from; written = 0 }) (record { taken = length s; written = []; held = text_of m ++ s })
      (run_none (length old - at) room (text_of m) s (omega arith))
      (rw (g, l, take_all (length s) s (omega arith)))
      refl
      (omega arith)

  -- a record ends: its line, and on behind it
  module _ (e : ℕ) (some : end_from (last_of (text_of m)) input from ≡ Some e) (begun : ListMachine) (kept : begun ≡ keep (text_of m ++ take (e - from) (drop from input))) where
    found : e ≡ from + end_in (last_of (text_of m)) (drop from input)
    found = (end_is (last_of (text_of m)) input from e some).0

    pub before_end : e < length input
    before_end = (end_is (last_of (text_of m)) input from e some).1

    begun_text : text_of begun ≡ shrunk (text_of m ++ take (e - from) (drop from input))
    begun_text = ap text_of kept ∙ kept_text (text_of m ++ take (e - from) (drop from input))

    count : e - from ≡ end_in (last_of (text_of m)) (drop from input)
    count = omega (arith, found)

    found_inside : end_in (last_of (text_of m)) (drop from input) < length (drop from input)
    found_inside = omega (arith, length-drop from input, found, before_end)

    pub begun_some : 0 < length (text_of begun)
    begun_some = rw (begun_text, count) (some_kept (text_of m ++ take (end_in (last_of (text_of m)) (drop from input)) (drop from input)) (some_text (text_of m) (drop from input) found_inside))

    feeding_on : (mid : List ℕ) (end : ℕ) → Put old at (line_of (but_last (text_of begun))) mid end
        → feeding m input from old at ≡ after (e + 1 - from) (line_of (but_last (text_of begun))) (run_from input (e + 1) mid end)
    feeding_on mid end p =
        let s = drop from input in
        let k = end_in (last_of (text_of m)) s in
        let w = text_of m ++ take k s in
        let l : line_of (but_last (text_of begun)) ≡ line_of (but_last w) = rw (begun_text, count) (line_shrunk w) in
        let b : suc k ≡ e + 1 - from = omega (arith, found) in
        let j : from + suc k ≡ e + 1 = omega (arith, found) in
        let d : drop (suc k) s ≡ drop (e + 1) input = drop-drop (suc k) from input ∙ rw j in
        let r : length mid - end ≡ length old - at - length (line_of (but_last (text_of begun))) = omega (arith, put_length p, p.place) in
        run_end (length old - at) room (text_of m) s found_inside ∙ rw (← l, d, b, ← r)

    pub feeds_records : (mid : List ℕ) (end : ℕ) (new : List ℕ) (moved : Moved) (none k : ListMachine) → Put old at (line_of (but_last (text_of begun))) mid end
        → Moves (run_from input (e + 1) mid end) input (e + 1) mid end new moved
        → none ≡ keep [] → k ≡ keep (text_of none ++ take (moved.stop - moved.next) (drop moved.next input))
        → Feeds m input from old at new (record { machine = k; taken = moved.stop - from; written = moved.end - at })
    feeds_records mid end new moved none k p v n g =
        let l = line_of (but_last (text_of begun)) in
        let r = run_from input (e + 1) mid end in
        let q : Put old at (l ++ r.written) new moved.end = put_on p (record { bytes = v.bytes; place = v.written }) in
        let a : k ≡ keep r.held = g ∙ (keep_more none [] _ n ∙ ap keep (sym v.held)) in
        let t : moved.stop - from ≡ e + 1 - from + r.taken = omega (arith, v.taken, found) in
        let w : moved.end - at ≡ length (l ++ r.written) = omega (arith, q.place) in
        feeds m input from old at new (record { machine = k; taken = moved.stop - from; written = moved.end - at }) (after (e + 1 - from) l r)
        (feeding_on mid end p)
        (rw (a, t, w))
        q.bytes
        (omega (arith, q.place, v.room, put_length p))
