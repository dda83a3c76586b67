-- Reading and writing: a number is read back where it was written, and no other number changes. What bytes say stays when more follow, and fits in its bits. Assumes nothing.
use Prim.Native.Nat.{ℕ, ◌+◌, ◌*◌, ◌/◌, ◌%◌, ◌^◌, ◌<◌, ◌≤◌}
use mathlib.Core.List.{List, ◌++◌}
use mathlib.Core.Path.{◌≡◌, ◌∙◌}
use native.Mathlib.Omega.{arith}
use native.Mathlib.Nat.{add-zero}
use lib.ListN.{length, get_or, get_or-append}
use lib.Seq.{sets, length-sets}
use Rattle.numbers.specs.Words.{word, long, word_bytes, long_bytes}
use Rattle.numbers.proofs.Runs.{sets_append, before_run, behind_run, in_run}

-- a number that ends before what is stored, or starts behind it
module _ (l : List ℕ) (at : ℕ) (vs : List ℕ) (k : ℕ) where
  pub word_before : k + 4 ≤ at → word (sets l at vs) k ≡ word l k
  unfolding word
  word_before h = rw (before_run l at vs k (omega arith), before_run l at vs (k + 1) (omega arith), before_run l at vs (k + 2) (omega arith), before_run l at vs (k + 3) (omega arith))

  pub word_behind : at + length vs ≤ k → word (sets l at vs) k ≡ word l k
  unfolding word
  word_behind h = rw (behind_run l at vs k (omega arith), behind_run l at vs (k + 1) (omega arith), behind_run l at vs (k + 2) (omega arith), behind_run l at vs (k + 3) (omega arith))

module _ (l : List ℕ) (at : ℕ) (vs : List ℕ) (k : ℕ) where
  pub long_before : k + 8 ≤ at → long (sets l at vs) k ≡ long l k
  unfolding long
  long_before h = rw (word_before l at vs k (omega arith), word_before l at vs (k + 4) (omega arith))

  pub long_behind : at + length vs ≤ k → long (sets l at vs) k ≡ long l k
  unfolding long
  long_behind h = rw (word_behind l at vs k (omega arith), word_behind l at vs (k + 4) (omega arith))

-- two bytes make 16 bits, and two halves 32
last_16 : (n : ℕ) → n % 256 + n / 256 % 256 * 256 ≡ n % 65_536
last_16 n = omega arith

last_32 : (n : ℕ) → n % 65_536 + n / 65_536 % 65_536 * 65_536 ≡ n % 4_294_967_296
last_32 n = omega arith

high_byte : (n : ℕ) → n / 65_536 / 256 ≡ n / 16_777_216
high_byte n = omega arith

bytes_32 : (n : ℕ) → n % 256 + n / 256 % 256 * 256 + n / 65_536 % 256 * 65_536 + n / 16_777_216 % 256 * 16_777_216 ≡ n % 4_294_967_296
bytes_32 n =
    let a = last_16 n in
    let b : n / 65_536 % 256 + n / 16_777_216 % 256 * 256 ≡ n / 65_536 % 65_536 = rw (← high_byte n) (last_16 (n / 65_536)) in
    added (n % 256) (n / 256 % 256) (n / 65_536 % 256) (n / 16_777_216 % 256) (n % 65_536) (n / 65_536 % 65_536) a b ∙ last_32 n
  where
    added : (a b c d low high : ℕ) → a + b * 256 ≡ low → c + d * 256 ≡ high → a + b * 256 + c * 65_536 + d * 16_777_216 ≡ low + high * 65_536
    added a b c d low high e f = omega arith

-- the four bytes of n say its last 32 bits
word_last : (l : List ℕ) (at n : ℕ) → at + 4 ≤ length l → word (sets l at (word_bytes n)) at ≡ n % 4_294_967_296
unfolding word word_bytes
word_last l at n h =
    let a : get_or (sets l at (word_bytes n)) at 0 ≡ n % 256 = rw (add-zero at) at (in_run l at (word_bytes n) 0 (omega arith) h) in
    let b = in_run l at (word_bytes n) 1 (omega arith) h in
    let c = in_run l at (word_bytes n) 2 (omega arith) h in
    let d = in_run l at (word_bytes n) 3 (omega arith) h in
    rw (a, b, c, d) (bytes_32 n)

pub word_back : (l : List ℕ) (at n : ℕ) → at + 4 ≤ length l → n < 2 ^ 32 → word (sets l at (word_bytes n)) at ≡ n
word_back l at n h j = word_last l at n h ∙ omega arith

pub long_back : (l : List ℕ) (at n : ℕ) → at + 8 ≤ length l → n < 2 ^ 64 → long (sets l at (long_bytes n)) at ≡ n
unfolding long long_bytes word_bytes
long_back l at n h j =
    let low = sets l at (word_bytes (n % 4_294_967_296)) in
    let high = word_bytes (n / 4_294_967_296) in
    let a : word (sets low (at + 4) high) at ≡ n % 4_294_967_296 = word_before low (at + 4) high at (omega arith) ∙ word_back l at (n % 4_294_967_296) (omega arith) (omega arith) in
    let b : word (sets low (at + 4) high) (at + 4) ≡ n / 4_294_967_296 = word_back low (at + 4) (n / 4_294_967_296) (rw length-sets (omega arith)) (omega arith) in
    rw (sets_append l at (word_bytes (n % 4_294_967_296)) high, a, b) (omega arith)

-- more bytes behind the number
pub word_on : (s t : List ℕ) (at : ℕ) → at + 4 ≤ length s → word (s ++ t) at ≡ word s at
unfolding word
word_on s t at h =
    rw (
      get_or-append s t 0 at (omega arith),
      get_or-append s t 0 (at + 1) (omega arith),
      get_or-append s t 0 (at + 2) (omega arith),
      get_or-append s t 0 (at + 3) (omega arith),
    )

pub long_on : (s t : List ℕ) (at : ℕ) → at + 8 ≤ length s → long (s ++ t) at ≡ long s at
unfolding long
long_on s t at h = rw (word_on s t at (omega arith), word_on s t (at + 4) (omega arith))

-- what bytes spell fits in its bits
module _ (l : List ℕ) (bytes : (i : ℕ) → get_or l i 0 < 256) (at : ℕ) where
  pub word_below : word l at < 2 ^ 32
  unfolding word
  word_below = omega (arith, bytes at, bytes (at + 1), bytes (at + 2), bytes (at + 3))

pub long_below : (l : List ℕ) → ((i : ℕ) → get_or l i 0 < 256) → (at : ℕ) → long l at < 2 ^ 64
unfolding long
long_below l bytes at = omega (arith, word_below l bytes at, word_below l bytes (at + 4))
