-- What the count of the rows with a property and the place of the last of them tell of the rows, and what a turn of a loop adds to them.
-- Assumes nothing.
use Prim.Native.Nat.{ℕ, zero, suc, ◌+◌, ◌<◌, ◌≤◌}
use mathlib.Core.Path.{◌≡◌, refl, sym, ◌∙◌, ap}
use mathlib.Core.Bool.{Bool, true, false, cond, not}
use mathlib.Core.List.{List, ◌∷◌}
use native.Mathlib.Omega.{arith}
use native.Mathlib.Numerals.{add-one}
use native.Mathlib.Decide.{le_ind}
use borrow.Author.Tests.{ne_eqb}
use lib.Dec.{eqb}
use Rattle.guideline.specs.Table.{None, One, Many, keep, more, hits, some, number}
use Rattle.guideline.specs.Bytes.{listed}
use Rattle.cells.specs.declared.Tally.{Tally}
use Rattle.cells.specs.Tally.{counted, tallied, told, Tallying}

-- a turn of a loop
pub tally_hit : (h : ℕ → Bool) (i : ℕ) → h i ≡ true → tallied h (i + 1) ≡ record { count = (tallied h i).count + 1; last = i }
unfolding tallied
tally_hit h i e = rw (add-one, e)

pub tally_miss : (h : ℕ → Bool) (i : ℕ) → h i ≡ false → tallied h (i + 1) ≡ tallied h i
unfolding tallied
tally_miss h i e = rw (add-one, e)

told_more : {A : Type 0} (n : ℕ) (x y : A) → more x (told n y) ≡ told (n + 1) x
told_more zero x y = refl
told_more (suc zero) x y = refl
told_more (suc (suc n)) x y = rw add-one

pub hits_tallied : {A : Type 0} (p : A → Bool) (f : ℕ → A) (n : ℕ) → hits (keep p (listed n f)) ≡ told (tallied (λ i. p (f i)) n).count (f (tallied (λ i. p (f i)) n).last)
unfolding tallied
hits_tallied p f zero = refl
hits_tallied {A} p f (suc n) = go (p (f n)) (hits_tallied p f n)
  where
    t : Tally
    t = tallied (λ i. p (f i)) n

    rest : List A
    rest = keep p (listed n f)

    go : (b : Bool) → hits rest ≡ told t.count (f t.last) → hits (cond b (f n ∷ rest) rest) ≡ told (counted b n t).count (f (counted b n t).last)
    go true e = ap (more (f n)) e ∙ told_more t.count (f n) (f t.last)
    go false e = e

-- the last place is one of the places
pub last_below : (h : ℕ → Bool) (n : ℕ) → 0 < (tallied h n).count → (tallied h n).last < n
unfolding tallied
last_below h zero c = absurd (let z : ⊥ = omega arith in z)
last_below h (suc n) c = go (h n) (last_below h n) c
  where
    go : (b : Bool) → (0 < (tallied h n).count → (tallied h n).last < n) → 0 < (counted b n (tallied h n)).count → (counted b n (tallied h n)).last < suc n
    go true rec c = omega arith
    go false rec c = let k : (tallied h n).last < n = rec c in omega arith

-- by the count: is there any; is there none; how many
pub some_told : {A : Type 0} (n : ℕ) (x : A) → some (told n x) ≡ not (eqb n 0)
some_told zero x = refl
some_told (suc zero) x = refl
some_told (suc (suc n)) x = rw (ne_eqb (suc (suc n)) 0 (λ e. omega arith))

pub number_told : {A : Type 0} (n : ℕ) (x : A) → number (told n x) ≡ n
number_told zero x = refl
number_told (suc zero) x = refl
number_told (suc (suc n)) x = refl

pub tallying_none : (h : ℕ → Bool) (rows : ℕ) → Tallying h rows 0 0 0
unfolding tallied
tallying_none h rows = (omega arith, omega arith, refl, refl)

module _ {rows i count last : ℕ} (h : ℕ → Bool) (k : Tallying h rows i count last) (in_rows : i < rows) where
  pub tallying_hit : h i ≡ true → Tallying h rows (i + 1) (count + 1) i
  tallying_hit e =
      (omega arith, omega arith, rw (tally_hit h i e) (ap (λ (n : ℕ). n + 1) k.2), rw (tally_hit h i e))

  pub tallying_miss : h i ≡ false → Tallying h rows (i + 1) count last
  tallying_miss e = (omega arith, omega arith, rw (tally_miss h i e) k.2, rw (tally_miss h i e) k.3)

-- rows without the property are passed over
none_between : (h : ℕ → Bool) (i j : ℕ) → i ≤ j → ((m : ℕ) → i ≤ m → m < j → h m ≡ false) → tallied h j ≡ tallied h i
unfolding tallied
none_between h i =
    le_ind (λ j. ((m : ℕ) → i ≤ m → m < j → h m ≡ false) → tallied h j ≡ tallied h i) (λ misses. refl) (λ j le rec misses. rw (misses j le (omega arith)) (rec (λ m above below. misses m above (omega arith))))

pub tallying_skip : {rows i count last : ℕ} (h : ℕ → Bool) (j : ℕ) → Tallying h rows i count last → i ≤ j → j ≤ rows → ((m : ℕ) → i ≤ m → m < j → h m ≡ false) → Tallying h rows j count last
tallying_skip {rows} {i} h j k le most misses =
    let same : tallied h j ≡ tallied h i = none_between h i j le misses in
    (most, omega arith, k.2 ∙ sym (ap (λ (t : Tally). t.count) same), k.3 ∙ sym (ap (λ (t : Tally). t.last) same))

pub tallying_all : {rows i count last : ℕ} (h : ℕ → Bool) → Tallying h rows i count last → rows ≤ i → ◌≡◌ {A = Tally} (record { count = count; last = last }) (tallied h rows)
tallying_all {rows} {i} h k j =
    let e : i ≡ rows = omega arith in
    rw (← e, k.2, k.3)

-- a row with the property is counted
pub counted_once : (h : ℕ → Bool) (i n : ℕ) → i < n → h i ≡ true → 0 < (tallied h n).count
unfolding tallied
counted_once h i n below hit =
    le_ind (λ m. 0 < (tallied h m).count) (rw hit (omega arith)) (λ m _ k. go m (h m) k) n below
  where
    go : (m : ℕ) (b : Bool) → 0 < (tallied h m).count → 0 < (counted b m (tallied h m)).count
    go m true k = omega arith
    go m false k = k

-- none, the one, or many, by the count
pub told_none : {A : Type 0} {n : ℕ} (x : A) → n ≡ 0 → told n x ≡ None
told_none x e = rw e

pub told_one : {A : Type 0} {n : ℕ} (x : A) → n ≡ 1 → told n x ≡ One x
told_one x e = rw e

pub told_many : {A : Type 0} (n : ℕ) (x : A) → (n ≡ 0 → ⊥) → (n ≡ 1 → ⊥) → told n x ≡ Many n
told_many zero x h k = absurd (h refl)
told_many (suc zero) x h k = absurd (k refl)
told_many (suc (suc n)) x h k = refl
