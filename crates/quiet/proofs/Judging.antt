-- What a judgement tells. Assumes nothing.
use Prim.Native.Nat.{ℕ}
use mathlib.Core.Path.{◌≡◌, refl}
use mathlib.Core.Bool.{Bool, true, false}
use native.Mathlib.Omega.{arith}
use Rattle.std.specs.Prelude.{None, Some}
use Rattle.quiet.specs.Judged.{judged}

pub barred : (bars allows : Bool) → judged bars allows ≡ None → bars ≡ true
barred true allows e = refl
barred false allows e = absurd (let z : ◌≡◌ {A = ℕ} 0 1 = cc in omega arith)

pub freed : (bars allows : Bool) {m : Bool} → judged bars allows ≡ Some m → (bars ≡ false) × (allows ≡ m)
freed true allows e = absurd (let z : ◌≡◌ {A = ℕ} 0 1 = cc in omega arith)
freed false allows {m} e = let z : allows ≡ m = cc in (refl, z)
