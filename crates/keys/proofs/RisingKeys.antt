-- The test in one pass says what the definition says, and halving finds the rows of a key. Assumes nothing.
use Prim.Native.Nat.{ℕ, zero, suc, ◌+◌, ◌≤◌, ◌<◌}
use mathlib.Core.Path.{◌≡◌, refl}
use mathlib.Core.Logic.{⊎_elim}
use mathlib.Core.Bool.{Bool, true, false, ◌&&◌}
use native.Mathlib.Nat.{eq-or-lt_of_le, le_trans, lt_of_le_of_lt}
use native.Mathlib.Decide.{le_ind}
use native.Mathlib.Numerals.{add-one}
use native.Mathlib.Omega.{arith}
use borrow.Author.Tests.{leb-true, le-leb, lt-leb, ltb-true, ltb-false}
use lib.Dec.{leb, ltb}
use Rattle.keys.specs.Rising.{Rising, key_before, rises, From, Between}

and_left : (p q : Bool) → (p && q) ≡ true → p ≡ true
and_left true q h = refl
and_left false q h = h

and_right : (p q : Bool) → (p && q) ≡ true → q ≡ true
and_right true q h = h
and_right false q h = absurd (let z : ◌≡◌ {A = ℕ} 0 1 = cc in let n : ⊥ = omega arith in n)

-- a key that the key before it comes up to is as large as any before it
last_largest : (f : ℕ → ℕ) (m : ℕ) → leb (key_before f m) (f m) ≡ true → Rising f m → (x : ℕ) → x ≤ m → f x ≤ f m
last_largest f zero h low x le = let e : x ≡ 0 = omega arith in rw e (omega arith)
last_largest f (suc m) h low x le =
    ⊎_elim (λ e. rw e (omega arith))
    (λ less. le_trans (low x m (omega arith) (omega arith)) (leb-true (f m) (f (suc m)) h))
    (eq-or-lt_of_le le)

-- the test says what the definition says
pub rises_rising : (f : ℕ → ℕ) (n : ℕ) → rises f n ≡ true → Rising f n
unfolding rises
rises_rising f zero h i j order below = absurd (let z : ⊥ = omega arith in z)
rises_rising f (suc n) h i j order below =
    let rec : Rising f n = rises_rising f n (and_left (rises f n) (leb (key_before f n) (f n)) h) in
    ⊎_elim (λ e. rw e (last_largest f n (and_right (rises f n) (leb (key_before f n) (f n)) h) rec i (omega arith)))
    (λ less. rec i j order less)
    (eq-or-lt_of_le {n = j} {m = n} (omega arith))

pub rising_rises : (f : ℕ → ℕ) (n : ℕ) → Rising f n → rises f n ≡ true
unfolding rises
rising_rises f zero h = refl
rising_rises f (suc n) h = rw (rising_rises f n (λ i j order below. h i j order (omega arith))) (go n h)
  where
    go : (m : ℕ) → Rising f (suc m) → leb (key_before f m) (f m) ≡ true
    go zero rise = le-leb 0 (f 0) (omega arith)
    go (suc m) rise = le-leb (f m) (f (suc m)) (rise m (suc m) (omega arith) (omega arith))

-- a turn of the test's loop
pub rises_more : (f : ℕ → ℕ) (n : ℕ) → rises f (n + 1) ≡ (rises f n && leb (key_before f n) (f n))
unfolding rises
rises_more f n = rw add-one

pub before_more : (f : ℕ → ℕ) (n : ℕ) → key_before f (n + 1) ≡ f n
before_more f n = rw add-one

-- keys rise by one row more, or fall there, and then they do not rise
pub rises_on : (f : ℕ → ℕ) (n : ℕ) → rises f n ≡ true → key_before f n ≤ f n → rises f (n + 1) ≡ true
rises_on f n h up = rw (rises_more f n, h) (le-leb (key_before f n) (f n) up)

pub falls_here : (f : ℕ → ℕ) (n : ℕ) → f n < key_before f n → rises f (n + 1) ≡ false
falls_here f n down = rw (rises_more f n, lt-leb (key_before f n) (f n) down) (and_false (rises f n))
  where
    and_false : (p : Bool) → (p && false) ≡ false
    and_false true = refl
    and_false false = refl

pub fall_stays : (f : ℕ → ℕ) (m n : ℕ) → m ≤ n → rises f m ≡ false → rises f n ≡ false
unfolding rises
fall_stays f m = le_ind (λ n. rises f m ≡ false → rises f n ≡ false) (λ h. h) (λ n le rec h. rw (rec h))

-- a half more, or less, is looked at
module _ {f : ℕ → ℕ} {n low a b : ℕ} (rise : Rising f n) (k : Between f n low a b) (m : ℕ) (below : m < b) where
  pub upper_half : f m < low → Between f n low (m + 1) b
  upper_half h =
      (omega arith, k.1, λ i less. lt_of_le_of_lt (rise i m (omega arith) (omega arith)) h, k.3)

  pub lower_half : a ≤ m → low ≤ f m → Between f n low a m
  lower_half above h =
      (above, omega arith, k.2, λ i more less. le_trans h (rise m i more less))

-- the rows that are at least the key, and not at least one more, are those of the key
module _ {f : ℕ → ℕ} {n key more a b : ℕ} (one_more : more ≡ key + 1) (p : From f n key a) (q : From f n more b) where
  pub from_order : a ≤ b
  from_order = go (ltb b a) (ltb-true b a) (ltb-false b a)
    where
      go : (t : Bool) → (t ≡ true → b < a) → (t ≡ false → a ≤ b) → a ≤ b
      go true is less =
          let x : f b < key = p.1 b (is refl) in
          let y : more ≤ f b = q.2 b (omega arith) (omega (arith, is refl, p.0)) in
          absurd (let z : ⊥ = omega (arith, one_more) in z)
      go false is less = less refl

  pub from_key : (i : ℕ) → a ≤ i → i < b → f i ≡ key
  from_key i above below =
      let x : key ≤ f i = p.2 i above (omega (arith, q.0)) in
      let y : f i < more = q.1 i below in
      omega (arith, one_more)

  pub from_before : (i : ℕ) → 0 ≤ i → i < a → f i ≡ key → ⊥
  from_before i above below same = let x : f i < key = p.1 i below in omega arith

  pub from_after : (i : ℕ) → b ≤ i → i < n → f i ≡ key → ⊥
  from_after i above below same = let x : more ≤ f i = q.2 i above below in omega (arith, one_more)
