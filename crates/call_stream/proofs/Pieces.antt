-- A stream read in pieces: what is found in the bytes gathered so far, and its line, stay when more bytes follow. Assumes nothing.
use Prim.Native.Nat.{ℕ, ◌+◌, ◌≤◌}
use mathlib.Core.Bool.{Bool, true, false, cond}
use mathlib.Core.List.{List, ◌++◌}
use mathlib.Core.Path.{◌≡◌, refl}
use native.Mathlib.Omega.{arith}
use borrow.Author.Tests.{le-leb, leb-true}
use lib.Dec.{leb}
use lib.ListN.{length, drop, length-append, length-drop}
use lib.Seq.{take-append-le, drop-append-le}
use Rattle.std.specs.Prelude.{Some, None, Result, Ok, Err}
use Rattle.numbers.specs.Words.{word}
use Rattle.numbers.proofs.ReadBack.{word_on, long_on}
use Rattle.records.specs.Digits.{chars}
use Rattle.call_lines.specs.Lines.{front, front_730, front_070, most_bytes}
use Rattle.call_stream.specs.Calls.{Found, more, file_of, asked_by, front_of, call_length, reached, asks, found}
use Rattle.call_stream.specs.Lines.{line_by, line_of}
use Rattle.call_stream.specs.declared.calls.FileNumber.{FileNumber}
use Rattle.call_stream.specs.declared.calls.FileNumber.TheVariants.{File730, File070}
use Rattle.call_stream.specs.declared.calls.Asked.{Asked}
use Rattle.call_stream.specs.declared.calls.Asked.TheVariants.{Reads, Writes}
use Rattle.call_stream.specs.declared.calls.Call.{Call}
use Rattle.call_stream.specs.declared.calls.NoCall.{NoCall}
use Rattle.call_stream.proofs.Finding.{Bounded, bounded}

chars_on : (s t : List ℕ) (at n : ℕ) → at + n ≤ length s → chars (s ++ t) at n ≡ chars s at n
chars_on s t at n h = rw (drop-append-le at s t (omega arith)) (take-append-le n (drop at s) t (rw (length-drop at s) (omega arith)))

-- two choices by one test, equal where the second is no part of a call
alike : (b : Bool) (x y v w : Found) → ((v ≡ more → ⊥) → x ≡ v) → ((w ≡ more → ⊥) → y ≡ w) → (cond b v w ≡ more → ⊥) → cond b x y ≡ cond b v w
alike true x y v w f g n = f n
alike false x y v w f g n = g n

reached_on : (c : Call) (have extra : ℕ) → (reached c have ≡ more → ⊥) → reached c (have + extra) ≡ reached c have
reached_on c have extra settled = split (leb (call_length c) have) refl
  where
    split : (b : Bool) → leb (call_length c) have ≡ b → reached c (have + extra) ≡ reached c have
    split true e = rw (e, le-leb (call_length c) (have + extra) (omega (arith, leb-true (call_length c) have e)))
    split false e = absurd (settled (rw e))

asks_on : (file : Result FileNumber NoCall) (asked : Result Asked NoCall) (n have extra : ℕ) → (asks file asked n have ≡ more → ⊥) → asks file asked n (have + extra) ≡ asks file asked n have
asks_on (Ok file) (Ok asked) n have extra = reached_on (record { file = file; asked = asked; bytes = n }) have extra
asks_on (Ok file) (Err e) n have extra = λ _. refl
asks_on (Err e) asked n have extra = λ _. refl

pub found_on : (s t : List ℕ) → (found s ≡ more → ⊥) → found (s ++ t) ≡ found s
unfolding found
found_on s t settled = split (leb front (length s)) refl
  where
    split : (b : Bool) → leb front (length s) ≡ b → found (s ++ t) ≡ found s
    split true e =
        let h = leb-true front (length s) e in
        let f : front ≤ length s + length t = omega arith in
        rw (length-append s t, le-leb front (length s + length t) f, e, word_on s t 8 (omega arith), word_on s t 0 (omega arith), word_on s t 4 (omega arith))
        (alike (leb (word s 8) most_bytes) _ _ _ _ (asks_on (file_of (word s 0)) (asked_by (word s 4)) (word s 8) (length s) (length t)) (λ _. refl) (λ q. settled (rw e q)))
    split false e = absurd (settled (rw e))

line_same : (file : FileNumber) (asked : Asked) (s t : List ℕ) (n : ℕ) → front_of file asked + n ≤ length s → line_by file asked (s ++ t) n ≡ line_by file asked s n
line_same File730 Reads s t n b = rw (chars_on s t front n b)
line_same File730 Writes s t n b =
    rw (
      word_on s t 20 (omega (arith, b)),
      word_on s t 24 (omega (arith, b)),
      word_on s t 28 (omega (arith, b)),
      long_on s t 32 (omega (arith, b)),
      word_on s t 40 (omega (arith, b)),
      long_on s t 12 (omega (arith, b)),
      chars_on s t front_730 n b,
    )
line_same File070 Reads s t n b = rw (chars_on s t front n b)
line_same File070 Writes s t n b =
    rw (
      word_on s t 20 (omega (arith, b)),
      word_on s t 24 (omega (arith, b)),
      word_on s t 28 (omega (arith, b)),
      word_on s t 32 (omega (arith, b)),
      word_on s t 36 (omega (arith, b)),
      word_on s t 40 (omega (arith, b)),
      word_on s t 44 (omega (arith, b)),
      long_on s t 12 (omega (arith, b)),
      chars_on s t front_070 n b,
    )

found_line : (f : Found) (s t : List ℕ) → Bounded (length s) f → line_of f (s ++ t) ≡ line_of f s
unfolding line_of
found_line (Ok (Some c)) s t b = line_same c.file c.asked s t c.bytes b.0
found_line (Ok None) s t b = refl
found_line (Err e) s t b = refl

pub line_on : (s t : List ℕ) → (found s ≡ more → ⊥) → line_of (found (s ++ t)) (s ++ t) ≡ line_of (found s) s
line_on s t settled = rw (found_on s t settled) (found_line (found s) s t (bounded s))
