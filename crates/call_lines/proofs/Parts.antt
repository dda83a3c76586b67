-- The bytes of a call behind its numbers, and what a writer leaves there, whatever the file. Assumes nothing.
use Prim.Native.Nat.{ℕ, ◌+◌, ◌-◌, ◌≤◌}
use mathlib.Core.List.{List, ◌++◌}
use mathlib.Core.Path.{◌≡◌, ◌∙◌}
use native.Mathlib.Omega.{arith}
use lib.ListN.{length, take, drop}
use lib.Seq.{length-take-le, take_at, drop_at}
use Rattle.records.specs.Digits.{chars}
use Rattle.records.specs.File.{File, writing, leaves}
use Rattle.records.proofs.Chars.{length_chars}
use Rattle.call_lines.specs.Lines.{write_line, place_of, written, write_call, left_call}

-- from a place to an end
pub part_of : (s : List ℕ) (at n : ℕ) → take (at + n - at) (drop at s) ≡ chars s at n
part_of s at n =
    let e : at + n - at ≡ n = omega arith in
    rw e

-- the bytes put into the middle, found again
middle : (s b : List ℕ) (at n : ℕ) → at + n ≤ length s → length b ≡ n → take n (drop at (take at s ++ (b ++ drop n (drop at s)))) ≡ b
middle s b at n h e = rw (drop_at (take at s) (b ++ drop n (drop at s)) at (length-take-le at s (omega arith))) (take_at b (drop n (drop at s)) n e)

module _ {Record : Type 0} (f : File Record) (before : ℕ) (s : List ℕ) (n : ℕ) (h : before + n ≤ length s) (r of : Record) (place : ℕ) (b : List ℕ) (is : r ≡ of) (at : place ≡ place_of s) where
  left : b ≡ leaves f r place (take (before + n - before) (drop before s)) → b ≡ written f of before s n
  left e = e ∙ rw (is, at, part_of s before n)

  pub line_left : (number : ℕ) → number ≡ writing f r place (length (take (before + n - before) (drop before s))) →
      b ≡ leaves f r place (take (before + n - before) (drop before s)) → length b ≡ length (take (before + n - before) (drop before s)) →
      write_line number (take (before + n - before) (drop before (take before s ++ (b ++ drop (before + n - before) (drop before s))))) ≡ write_call f of before s n
  line_left number answered e long =
      let k : before + n - before ≡ n = omega arith in
      let p : length (chars s before n) ≡ n = length_chars s before n h in
      let q : length b ≡ n = rw k at long ∙ p in
      let v : number ≡ writing f of (place_of s) n = rw (k, p, is, at) at answered in
      rw (k, middle s b before n h q, v, left e)

  pub call_left : b ≡ leaves f r place (take (before + n - before) (drop before s)) → take before s ++ (b ++ drop (before + n - before) (drop before s)) ≡ left_call f of before s n
  call_left e =
      let k : before + n - before ≡ n = omega arith in
      rw (left e, k)
