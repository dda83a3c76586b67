-- Where the call ends that bytes begin with. Assumes nothing.
use Prim.Native.Nat.{ℕ, ◌+◌, ◌<◌, ◌≤◌}
use mathlib.Core.Bool.{Bool, true, false, cond}
use mathlib.Core.List.{List}
use mathlib.Core.Path.{◌≡◌, refl}
use native.Mathlib.Omega.{arith}
use borrow.Author.Tests.{le-leb, lt-leb, leb-true, leb-false}
use lib.Dec.{leb}
use lib.ListN.{length}
use Rattle.std.specs.Prelude.{Some, None, Result, Ok, Err, IsErr}
use Rattle.numbers.specs.Words.{word}
use Rattle.call_lines.specs.Lines.{front, most_bytes}
use Rattle.call_stream.specs.Calls.{longest_call, Found, whole, broken, more, file_of, asked_by, front_of, call_length, reached, asks, found}
use Rattle.call_stream.specs.declared.calls.FileNumber.{FileNumber}
use Rattle.call_stream.specs.declared.calls.FileNumber.TheVariants.{File730, File070}
use Rattle.call_stream.specs.declared.calls.Asked.{Asked}
use Rattle.call_stream.specs.declared.calls.Asked.TheVariants.{Reads, Writes}
use Rattle.call_stream.specs.declared.calls.Call.{Call}
use Rattle.call_stream.specs.declared.calls.NoCall.{NoCall}

-- the only error
pub no_call : (r : Found) → IsErr r → r ≡ broken
no_call (Ok c) e = cc
no_call (Err e) h = refl

pub front_more : (s : List ℕ) → length s < front → more ≡ found s
unfolding found
front_more s h = rw (lt-leb front (length s) h)

module _ (s : List ℕ) (here : front ≤ length s) (n : ℕ) (e : n ≡ word s 8) where
  pub too_long : most_bytes < n → broken ≡ found s
  unfolding found
  too_long j = rw (le-leb front (length s) here, ← e, lt-leb n most_bytes j)

  -- by the file and by what is asked
  pub numbered : n ≤ most_bytes → (w v : ℕ) → w ≡ word s 0 → v ≡ word s 4 → (file : Result FileNumber NoCall) (asked : Result Asked NoCall) → file_of w ≡ file → asked_by v ≡ asked →
      asks file asked n (length s) ≡ found s
  unfolding found
  numbered h w v f a file asked is by = rw (le-leb front (length s) here, ← e, le-leb n most_bytes h, ← f, ← a, is, by)

module _ (c : Call) (have : ℕ) where
  pub all_there : call_length c ≤ have → whole c ≡ reached c have
  all_there h = rw (le-leb (call_length c) have h)

  pub part_there : have < call_length c → more ≡ reached c have
  part_there h = rw (lt-leb (call_length c) have h)

-- a whole call ends inside the bytes, and a part of one is shorter than the longest call
abbrev pub Bounded : ℕ → Found → Type 0
Bounded have (Ok (Some c)) = (call_length c ≤ have) × (c.bytes ≤ most_bytes)
Bounded have (Ok None) = have < longest_call
Bounded have (Err e) = Unit {0}

pub front_most : (file : FileNumber) (asked : Asked) → front_of file asked ≤ 48
front_most File730 Reads = omega arith
front_most File730 Writes = omega arith
front_most File070 Reads = omega arith
front_most File070 Writes = omega arith

either : (have : ℕ) (t : Bool) (x y : Found) → (t ≡ true → Bounded have x) → (t ≡ false → Bounded have y) → Bounded have (cond t x y)
either have true x y f g = f refl
either have false x y f g = g refl

bounded_asks : (file : Result FileNumber NoCall) (asked : Result Asked NoCall) (n have : ℕ) → n ≤ most_bytes → Bounded have (asks file asked n have)
bounded_asks (Ok file) (Ok asked) n have h =
    either have (leb (front_of file asked + n) have) _ more
    (λ e. (leb-true (front_of file asked + n) have e, h))
    (λ e. omega (arith, leb-false (front_of file asked + n) have e, front_most file asked))
bounded_asks (Ok file) (Err e) n have h = tt
bounded_asks (Err e) asked n have h = tt

pub bounded : (s : List ℕ) → Bounded (length s) (found s)
unfolding found
bounded s =
    either (length s) (leb front (length s)) _ more
    (λ _. either (length s) (leb (word s 8) most_bytes) _ broken
    (λ e. bounded_asks (file_of (word s 0)) (asked_by (word s 4)) (word s 8) (length s) (leb-true (word s 8) most_bytes e))
    (λ _. tt))
    (λ e. omega (arith, leb-false front (length s) e))
