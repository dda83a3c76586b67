-- The loop over records that lie in the input whole: what is left to do gives the whole run. Assumes nothing.
use Prim.Native.Nat.{ℕ, suc, ◌+◌, ◌-◌, ◌<◌, ◌≤◌}
use mathlib.Core.List.{List, [], ◌++◌}
use mathlib.Core.Path.{◌≡◌, sym, ap, ◌∙◌}
use native.Mathlib.Omega.{arith}
use native.Mathlib.Nat.{add-zero}
use lib.ListN.{length, take, drop, length-append, length-drop}
use lib.Seq.{sets, length-sets, take-take, take_all, length-take-le, drop-drop}
use Rattle.decimals.proofs.Puts.{sets_append}
use Rattle.decimals.specs.Put.{Put}
use Rattle.unit_lines.specs.Records.{line_of}
use Rattle.unit_lines.specs.Machine.{but_last, end_in, longest_line, Run, stopped, after, run}
use Rattle.unit_lines.specs.Feeding.{Moves}
use Rattle.unit_lines.proofs.Run.{run_full, run_none, run_end}

-- r does from here on what whole does from the start
pub record Rest (whole r : Run) (from : ℕ) (old : List ℕ) (at : ℕ) (out : List ℕ) (next end : ℕ) : Type 0 where
  pub taken : next + r.taken ≡ from + whole.taken
  pub held : r.held ≡ whole.held
  pub placed : end + length r.written ≡ at + length whole.written
  pub bytes : sets out end r.written ≡ sets old at whole.written

-- one record more: k characters and its line
rest_after : {whole r r' : Run} {from : ℕ} {old : List ℕ} {at : ℕ} {out : List ℕ} {next end : ℕ} (k : ℕ) (l : List ℕ) (new : List ℕ) (end' : ℕ)
    → Rest whole r from old at out next end → r ≡ after k l r' → Put out end l new end' → Rest whole r' from old at new (next + k) end'
rest_after {whole} {r} {r'} {from} {old} {at} {out} {next} {end} k l new end' h e p =
    let t : r.taken ≡ k + r'.taken = ap (λ (x : Run). x.taken) e in
    let w : r.written ≡ l ++ r'.written = ap (λ (x : Run). x.written) e in
    let n = length-append l r'.written in
    record {
      taken = omega (arith, h.taken);
      held = sym (ap (λ (x : Run). x.held) e) ∙ h.held;
      placed = omega (arith, h.placed, p.place, ap length w);
      bytes = rw (p.bytes, p.place) (sym (sets_append out end l r'.written) ∙ (ap (sets out end) (sym w) ∙ h.bytes));
    }

-- the run from a place of the input, where a record begins, and from a place of the buffer
abbrev pub run_from : List ℕ → ℕ → List ℕ → ℕ → Run
run_from input next out end = run (length out - end) [] (drop next input)

but_last_take : (k : ℕ) (s : List ℕ) → k ≤ length s → but_last (take k s) ≡ take (k - 1) s
but_last_take k s h = rw (length-take-le k s h) (take-take (k - 1) k s (omega arith))

module _ (input : List ℕ) (next : ℕ) (out : List ℕ) (end : ℕ) (e : ℕ) (found : e ≡ next + end_in 0 (drop next input)) (room : longest_line ≤ length out - end) where
  abbrev pub found_line : List ℕ
  found_line = line_of (take (e - 1 - next) (drop next input))

  next_end : (new : List ℕ) (end' : ℕ) → Put out end found_line new end' → length new - end' ≡ length out - end - length found_line
  next_end new end' p = rw (p.bytes, p.place, length-sets out end found_line) (omega arith)

  run_on : (new : List ℕ) (end' : ℕ) → e < length input → Put out end found_line new end' → run_from input next out end ≡ after (e + 1 - next) found_line (run_from input (e + 1) new end')
  run_on new end' h p =
      let s = drop next input in
      let k = end_in 0 s in
      let n = length-drop next input in
      let i : k < length s = omega arith in
      let a : k - 1 ≡ e - 1 - next = omega arith in
      let b : suc k ≡ e + 1 - next = omega arith in
      let j : next + suc k ≡ e + 1 = omega arith in
      let d : drop (suc k) s ≡ drop (e + 1) input = drop-drop (suc k) next input ∙ rw j in
      let l : but_last (take k s) ≡ take (e - 1 - next) s = but_last_take k s (omega arith) ∙ rw a in
      run_end (length out - end) room [] s i ∙ rw (l, d, b, next_end new end' p)

  module _ {whole : Run} {from : ℕ} {old : List ℕ} {at : ℕ} (rest : Rest whole (run_from input next out end) from old at out next end) where
    pub rest_on : (new : List ℕ) (end' : ℕ) → e < length input → Put out end found_line new end' → Rest whole (run_from input (e + 1) new end') from old at new (e + 1) end'
    rest_on new end' h p =
        let j : next + (e + 1 - next) ≡ e + 1 = omega arith in
        rw j at (rest_after (e + 1 - next) found_line new end' rest (run_on new end' h p) p)

    pub rest_none : next ≤ length input → e ≡ length input → end ≤ length old → Moves whole input from old at out (record { next = next; stop = e; end = end })
    rest_none i h f =
        let s = drop next input in
        let n = length-drop next input in
        let r : run_from input next out end ≡ record { taken = length s; written = []; held = s } = run_none (length out - end) room [] s (omega arith) in
        let a : Rest whole (record { taken = length s; written = []; held = s }) from old at out next end = rw r at rest in
        record {
          next = omega arith;
          stop = omega arith;
          taken = omega (arith, a.taken);
          held = sym a.held ∙ sym (take_all (e - next) s (omega arith));
          written = sym (add-zero end) ∙ a.placed;
          room = f;
          bytes = a.bytes;
        }

pub rest_full : {whole : Run} {from : ℕ} {old : List ℕ} {at : ℕ} (input : List ℕ) (next : ℕ) (out : List ℕ) (end : ℕ) → Rest whole (run_from input next out end) from old at out next end
    → length out - end < longest_line → next ≤ length input → end ≤ length old → Moves whole input from old at out (record { next = next; stop = next; end = end })
rest_full {whole} {from} {old} {at} input next out end rest h i f =
    let a : Rest whole (stopped []) from old at out next end = rw (run_full (length out - end) [] (drop next input) h) at rest in
    let z : next - next ≡ 0 = omega arith in
    record {
      next = omega arith;
      stop = i;
      taken = sym (add-zero next) ∙ a.taken;
      held = rw z (sym a.held);
      written = sym (add-zero end) ∙ a.placed;
      room = f;
      bytes = a.bytes;
    }

-- a line within the room for a longest one
pub put_inside : {out l new : List ℕ} {end end' : ℕ} → Put out end l new end' → length l ≤ longest_line → longest_line ≤ length out - end → end' ≤ length out
put_inside {out} {l} {new} {end} {end'} p h r = omega (arith, p.place)

pub put_length : {out l new : List ℕ} {end end' : ℕ} → Put out end l new end' → length new ≡ length out
put_length {out} {l} {new} {end} {end'} p = rw p.bytes (length-sets out end l)
