-- The end of a stream. Assumes nothing.
use Prim.Native.Nat.{ℕ}
use mathlib.Core.List.{List, [], ◌∷◌}
use mathlib.Core.Path.{◌≡◌, refl}
use native.Mathlib.Omega.{arith}
use lib.ListN.{length}
use Rattle.decimals.specs.Put.{Put}
use Rattle.call_stream.specs.Lines.{broken_line, last_line}

-- nothing is left, or something
pub last_none : (s old : List ℕ) (at : ℕ) → length s ≡ 0 → Put old at (last_line s) old at
unfolding last_line
last_none [] old at e = record { bytes = refl; place = omega arith }
last_none (b ∷ s) old at e = absurd (let z : ⊥ = omega arith in z)

pub last_some : (s old new text : List ℕ) (at end : ℕ) → (length s ≡ 0 → ⊥) → Put old at text new end → text ≡ broken_line → Put old at (last_line s) new end
unfolding last_line
last_some [] old new text at end n p e = absurd (n refl)
last_some (b ∷ s) old new text at end n p e = rw e at p
