-- The lists that a case of ranges wants, one by one. Assumes nothing.
use Prim.Native.Nat.{ℕ, zero, suc, ◌+◌, ◌≤◌, ◌<◌}
use mathlib.Core.Bool.{Bool, true, false}
use mathlib.Core.Path.{◌≡◌, refl}
use mathlib.Core.List.{List}
use native.Mathlib.Omega.{arith}
use borrow.Author.Tests.{le-leb, leb-true, ltb-true, ltb-false}
use lib.Dec.{leb, ltb}
use Rattle.decimals.proofs.Cases.{and_split}
use Rattle.stream.specs.Cases.{wanted_of, most_places, lists_lendable}

-- where all lists are short, each is
pub list_lendable : (b : List ℕ) (n i : ℕ) → i < n → lists_lendable b n ≡ true → (wanted_of b i).places ≤ most_places
unfolding lists_lendable
list_lendable b zero i h t = absurd (let y : ⊥ = omega arith in y)
list_lendable b (suc n) i h t = go (λ k. list_lendable b n i k both.0) (ltb i n) refl
  where
    both : (lists_lendable b n ≡ true) × (leb (wanted_of b n).places most_places ≡ true)
    both = and_split (lists_lendable b n) (leb (wanted_of b n).places most_places) t

    go : (i < n → (wanted_of b i).places ≤ most_places) → (s : Bool) → ltb i n ≡ s → (wanted_of b i).places ≤ most_places
    go before true e = before (ltb-true i n e)
    go before false e =
        let k : i ≡ n = omega (arith, ltb-false i n e) in
        rw k (leb-true (wanted_of b n).places most_places both.1)

pub list_long : (b : List ℕ) (n i : ℕ) → i < n → most_places < (wanted_of b i).places → lists_lendable b n ≡ false
list_long b n i h l = go (lists_lendable b n) (list_lendable b n i h)
  where
    go : (s : Bool) → (s ≡ true → (wanted_of b i).places ≤ most_places) → s ≡ false
    go true short = absurd (let y : ⊥ = omega (arith, short refl) in y)
    go false short = refl

pub next_lendable : (b : List ℕ) (i next : ℕ) → next ≡ i + 1 → lists_lendable b i ≡ true → (wanted_of b i).places ≤ most_places → lists_lendable b next ≡ true
unfolding lists_lendable
next_lendable b i next n h l =
    let s : next ≡ suc i = omega arith in
    rw (s, h) (le-leb (wanted_of b i).places most_places l)
