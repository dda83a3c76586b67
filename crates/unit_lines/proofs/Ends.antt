-- The end of a record, character by character. Assumes nothing.
use Prim.Native.Nat.{ℕ, suc, ◌+◌, ◌<◌, ◌≤◌}
use mathlib.Core.Bool.{true, false}
use mathlib.Core.List.{List, [], ◌∷◌}
use mathlib.Core.Path.{◌≡◌}
use mathlib.Core.Logic.{⊎_elim}
use native.Mathlib.Omega.{arith}
use native.Mathlib.Nat.{not-suc-le-zero}
use native.Mathlib.Numerals.{add-one}
use lib.ListN.{length, get_or, drop, drop_of_length-le, length-drop}
use lib.Seq.{drop-cons}
use Rattle.unit_lines.specs.Records.{crlf}
use Rattle.std.specs.Prelude.{Some, None}
use Rattle.unit_lines.specs.Machine.{end_in, end_from}
use Rattle.decimals.proofs.Cases.{true_or_false, lt_or_ge}
use borrow.Author.Tests.{lt-ltb, le-ltb}
use Rattle.unit_lines.proofs.Run.{end_here, end_on}

module _ (p : ℕ) (s : List ℕ) (i : ℕ) (h : i < length s) where
  pub end_found : crlf p (get_or s i 0) ≡ true → end_in p (drop i s) ≡ 0
  end_found e = rw (drop-cons s i 0 h) (end_here p (get_or s i 0) (drop (suc i) s) e)

  pub end_later : crlf p (get_or s i 0) ≡ false → i + 1 + end_in (get_or s i 0) (drop (i + 1) s) ≡ i + end_in p (drop i s)
  end_later e = rw (drop-cons s i 0 h, end_on p (get_or s i 0) (drop (suc i) s) e, add-one i) (omega arith)

pub end_over : (p : ℕ) (s : List ℕ) (i : ℕ) → length s ≤ i → end_in p (drop i s) ≡ 0
unfolding end_in
end_over p s i h = rw (drop_of_length-le s h)

pub end_most : (p : ℕ) (s : List ℕ) → end_in p s ≤ length s
unfolding end_in
end_most p [] = omega arith
end_most p (c ∷ s) =
    ⊎_elim
    (λ (e : crlf p c ≡ true). rw e (omega arith))
    (λ (e : crlf p c ≡ false). rw e (omega (arith, end_most c s)))
    (true_or_false (crlf p c))

-- no record ends with its first character
pub end_first : (s : List ℕ) → 0 < length s → 0 < end_in 0 s
unfolding end_in
end_first [] h = absurd (not-suc-le-zero h)
end_first (c ∷ s) h = omega arith

-- the place of an end, where there is one; else there is none in the whole rest
module _ (p : ℕ) (s : List ℕ) (from : ℕ) where
  pub some_end : (e : ℕ) → e < length s → e ≡ from + end_in p (drop from s) → Some e ≡ end_from p s from
  some_end e h f =
      let i : from + end_in p (drop from s) < length s = omega arith in
      rw (lt-ltb (from + end_in p (drop from s)) (length s) i, f)

  pub none_end : length s ≤ from + end_in p (drop from s) → None ≡ end_from p s from
  none_end h = rw (le-ltb (from + end_in p (drop from s)) (length s) h)

  pub end_is : (e : ℕ) → end_from p s from ≡ Some e → (e ≡ from + end_in p (drop from s)) × (e < length s)
  end_is e f =
      ⊎_elim
      (λ (h : from + end_in p (drop from s) < length s).
      let g = rw (lt-ltb (from + end_in p (drop from s)) (length s) h) at f in
      let i : from + end_in p (drop from s) ≡ e = cc in
      (omega arith, omega arith))
      (λ (h : length s ≤ from + end_in p (drop from s)).
      let g = rw (le-ltb (from + end_in p (drop from s)) (length s) h) at f in
      cc)
      (lt_or_ge (from + end_in p (drop from s)) (length s))

  pub no_end : from ≤ length s → end_from p s from ≡ None → length s ≡ from + end_in p (drop from s)
  no_end i f =
      ⊎_elim
      (λ (h : from + end_in p (drop from s) < length s).
      let g = rw (lt-ltb (from + end_in p (drop from s)) (length s) h) at f in
      cc)
      (λ (h : length s ≤ from + end_in p (drop from s)). omega (arith, end_most p (drop from s), length-drop from s))
      (lt_or_ge (from + end_in p (drop from s)) (length s))

-- an end that was found lies behind its record's first character
pub found_inside : (s : List ℕ) (i e : ℕ) → i ≤ length s → end_from 0 s i ≡ Some e → (i < e) × (e < length s)
found_inside s i e h some =
    let f = end_is 0 s i e some in
    let l = length-drop i s in
    (omega (arith, f.0, f.1, end_first (drop i s) (omega (arith, f.1))), f.1)
