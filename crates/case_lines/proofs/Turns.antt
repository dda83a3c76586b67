-- What stands in turn: of two that are equal, in two parts, and written one by one. Assumes nothing.
use Prim.Native.Nat.{ℕ, zero, suc, ◌+◌, ◌<◌}
use mathlib.Core.List.{List, ◌++◌, append_assoc, append-nil}
use mathlib.Core.Path.{◌≡◌, refl}
use native.Mathlib.Omega.{arith}
use native.Mathlib.Nat.{add-zero}
use Rattle.decimals.specs.Put.{Put}
use Rattle.decimals.proofs.Puts.{put_on}
use Rattle.guideline.specs.Counts.{in_turn}
use Rattle.guideline.proofs.CountLaws.{next_in_turn}

pub same_in_turn : (f g : ℕ → List ℕ) (n : ℕ) → ((i : ℕ) → i < n → f i ≡ g i) → in_turn f n ≡ in_turn g n
unfolding in_turn
same_in_turn f g zero h = refl
same_in_turn f g (suc n) h = rw (same_in_turn f g n (λ i k. h i (omega arith)), h n (omega arith)) refl

pub join_in_turn : (f : ℕ → List ℕ) (m n : ℕ) → in_turn f (m + n) ≡ in_turn f m ++ in_turn (λ k. f (m + k)) n
unfolding in_turn
join_in_turn f m zero = rw (add-zero m, append-nil (in_turn f m)) refl
join_in_turn f m (suc n) =
    let e : m + suc n ≡ suc (m + n) = omega arith in
    rw (e, join_in_turn f m n, append_assoc (in_turn f m) (in_turn (λ k. f (m + k)) n) (f (m + n))) refl

-- one more, written behind those that are
pub put_next : (g : ℕ → List ℕ) (old mid new : List ℕ) (at end behind i next : ℕ) → Put old at (in_turn g i) mid end → Put mid end (g i) new behind → next ≡ i + 1 → Put old at (in_turn g next) new behind
put_next g old mid new at end behind i next p q n =
    let s : next ≡ suc i = omega arith in
    rw (s, next_in_turn g i) (put_on p q)
