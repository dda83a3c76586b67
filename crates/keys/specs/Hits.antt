-- Tests of rows, and the first place with a property.
use Rattle.std.specs.Prelude.{ℕ, ◌<◌, ◌≡◌, Bool, true, false, Option, None, Some}

-- a test answers what a property says
abbrev pub Tests : {A : Type 0} → (A → Bool → Type 0) → (A → Bool) → Type 0
Tests {A} answers p = (row : A) (b : Bool) → answers row b → b ≡ p row

-- no place below n has a property
abbrev pub Missed : (ℕ → Bool) → ℕ → Type 0
Missed h n = (i : ℕ) → i < n → h i ≡ false

-- the first of n places that has it, if any has
abbrev pub First : (ℕ → Bool) → ℕ → Option ℕ → Type 0
First h n None = Missed h n
First h n (Some r) = (r < n) × Missed h r × (h r ≡ true)
