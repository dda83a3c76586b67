-- A number without zeros in front, digit by digit, and how many digits it has. Assumes nothing.
use Prim.Native.Nat.{ℕ, zero, suc, ◌+◌, ◌*◌, ◌/◌, ◌%◌, ◌^◌, ◌<◌, ◌≤◌}
use mathlib.Core.List.{[], ◌∷◌, ◌++◌}
use mathlib.Core.Path.{◌≡◌, refl, sym, ap, ◌∙◌}
use mathlib.Core.Logic.{⊎_elim}
use native.Mathlib.Omega.{arith}
use native.Mathlib.Nat.{pow-suc, not-suc-le-zero}
use borrow.Author.Tests.{lt-ltb, le-ltb}
use lib.ListN.{length, length-append}
use Rattle.std.proofs.Common.{Option, Some, None, IfNone, IfSome, MatchOption}
use Rattle.decimals.specs.Decimal.{decimals, decimal, digits, field}
use Rattle.decimals.proofs.Cases.{lt_or_ge}

decimals_one : (k n : ℕ) → n < 10 → decimals (suc k) n ≡ (48 + n) ∷ []
unfolding decimals
decimals_one k n h = rw (lt-ltb n 10 h)

decimals_more : (k n : ℕ) → 10 ≤ n → decimals (suc k) n ≡ decimals k (n / 10) ++ ((48 + n % 10) ∷ [])
unfolding decimals
decimals_more k n h = rw (le-ltb n 10 h)

decimals_any : (j k n : ℕ) → n < j → n < k → decimals j n ≡ decimals k n
decimals_any zero k n h i = absurd (not-suc-le-zero h)
decimals_any (suc j) zero n h i = absurd (not-suc-le-zero i)
decimals_any (suc j) (suc k) n h i =
    ⊎_elim
    (λ (s : n < 10). decimals_one j n s ∙ sym (decimals_one k n s))
    (λ (m : 10 ≤ n). rw (decimals_more j n m, decimals_more k n m, decimals_any j k (n / 10) (omega arith) (omega arith)))
    (lt_or_ge n 10)

pub decimal_one : (n : ℕ) → n < 10 → decimal n ≡ (48 + n) ∷ []
unfolding decimal
decimal_one n h = decimals_one n n h

pub decimal_more : (n : ℕ) → 10 ≤ n → decimal n ≡ decimal (n / 10) ++ ((48 + n % 10) ∷ [])
unfolding decimal
decimal_more n h = rw (decimals_more n n h, decimals_any n (suc (n / 10)) (n / 10) (omega arith) (omega arith))

pub length_decimal_more : (n : ℕ) → 10 ≤ n → length (decimal n) ≡ length (decimal (n / 10)) + 1
length_decimal_more n h = rw (decimal_more n h, length-append (decimal (n / 10)) ((48 + n % 10) ∷ []))

pub decimal_least : (n : ℕ) → 1 ≤ length (decimal n)
decimal_least n =
    ⊎_elim
    (λ (s : n < 10). rw (decimal_one n s) (omega arith))
    (λ (m : 10 ≤ n). omega (arith, length_decimal_more n m))
    (lt_or_ge n 10)

pub decimal_most : (k n : ℕ) → n < 10 ^ suc k → length (decimal n) ≤ suc k
decimal_most zero n h = rw (decimal_one n h) (omega arith)
decimal_most (suc k) n h =
    ⊎_elim
    (λ (s : n < 10). rw (decimal_one n s) (omega arith))
    (λ (m : 10 ≤ n).
    let j : n / 10 < 10 ^ suc k = omega (arith, pow-suc 10 (suc k)) in
    let i : length (decimal (n / 10)) ≤ suc k = decimal_most k (n / 10) j in
    omega (arith, length_decimal_more n m))
    (lt_or_ge n 10)

pow_least : (k : ℕ) → 1 ≤ 10 ^ k
pow_least zero = omega arith
pow_least (suc k) = omega (arith, pow-suc 10 k, pow_least k)

-- as many digits as powers of ten, and one
pub decimal_places : (k n : ℕ) → 10 ^ k ≤ n → n < 10 * 10 ^ k → length (decimal n) ≡ k + 1
decimal_places zero n l u = rw (decimal_one n (omega arith))
decimal_places (suc k) n l u =
    let e : length (decimal (n / 10)) ≡ k + 1 = decimal_places k (n / 10) (omega (arith, pow-suc 10 k)) (omega (arith, pow-suc 10 k)) in
    rw (length_decimal_more n (omega (arith, pow-suc 10 k, pow_least k))) (omega arith)

pub places_log : (o : Option ℕ) (n r : ℕ) (P : ℕ → Type 0) → IfNone o (n ≡ 0) → IfSome o (λ k. 10 ^ k ≤ n) → IfSome o (λ k. n < 10 * 10 ^ k) → MatchOption o (r ≡ 1) P → ((k : ℕ) → P k → r ≡ k + 1) → r ≡ length (decimal n)
places_log None n r P z l u m f = rw (m, z, decimal_one 0 (omega arith))
places_log (Some k) n r P z l u m f = rw (f k m, decimal_places k n l u)

pub length_digits : (k n : ℕ) → length (digits k n) ≡ k
unfolding digits
length_digits zero n = refl
length_digits (suc k) n = length-append (digits k (n / 10)) ((48 + n % 10) ∷ []) ∙ (ap (λ (m : ℕ). m + 1) (length_digits k (n / 10)) ∙ omega arith)

-- a number has its own digits and no zeros in front
pub decimal_digits : (k n : ℕ) → length (decimal n) ≡ k → decimal n ≡ digits k n
unfolding digits
decimal_digits zero n h = absurd (omega (arith, decimal_least n))
decimal_digits (suc k) n h =
    ⊎_elim
    (λ (s : n < 10).
    let z : k ≡ 0 = omega (arith, h, ap length (decimal_one n s)) in
    let e : n % 10 ≡ n = omega arith in
    rw (decimal_one n s, z, e))
    (λ (m : 10 ≤ n).
    let l : length (decimal (n / 10)) ≡ k = omega (arith, h, length_decimal_more n m) in
    rw (decimal_more n m, decimal_digits k (n / 10) l))
    (lt_or_ge n 10)

pub decimal_32 : (n : ℕ) → n < 2 ^ 32 → length (decimal n) ≤ 10
decimal_32 n h = decimal_most 9 n (omega arith)

pub decimal_64 : (n : ℕ) → n < 2 ^ 64 → length (decimal n) ≤ 20
decimal_64 n h = decimal_most 19 n (omega arith)

pub length_field : (n behind : ℕ) → length (field n behind) ≡ length (decimal n) + 1
unfolding field
length_field n behind = length-append (decimal n) (behind ∷ [])

pub field_most : (k n behind : ℕ) → n < 10 ^ suc k → length (field n behind) ≤ suc k + 1
field_most k n behind h = omega (arith, length_field n behind, decimal_most k n h)

pub field_32 : (n behind : ℕ) → n < 2 ^ 32 → length (field n behind) ≤ 11
field_32 n behind h = field_most 9 n behind (omega arith)

pub field_64 : (n behind : ℕ) → n < 2 ^ 64 → length (field n behind) ≤ 21
field_64 n behind h = field_most 19 n behind (omega arith)
