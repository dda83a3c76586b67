-- Keys that rise: the definition, a test that computes it in one pass, and what halving finds. f i is the key of row i, of n rows.
use Rattle.std.specs.Prelude.{ℕ, zero, suc, ◌≤◌, ◌<◌, Bool, true, ◌&&◌, leb}

abbrev pub Rising : (ℕ → ℕ) → ℕ → Type 0
Rising f n = (i j : ℕ) → i ≤ j → j < n → f i ≤ f j

-- the key before row n, and 0 before the first; does each key come up to the next?
abbrev pub key_before : (ℕ → ℕ) → ℕ → ℕ
key_before f zero = 0
key_before f (suc n) = f n

unfoldable pub rises : (ℕ → ℕ) → ℕ → Bool
rises f zero = true
rises f (suc n) = rises f n && leb (key_before f n) (f n)

-- the rows below r are below `low`, and the others are not
abbrev pub From : (ℕ → ℕ) → ℕ → ℕ → ℕ → Type 0
From f n low r = (r ≤ n) × ((i : ℕ) → i < r → f i < low) × ((i : ℕ) → r ≤ i → i < n → low ≤ f i)

-- what halving keeps: the rows below a are below `low`, those from b on are not
abbrev pub Between : (ℕ → ℕ) → ℕ → ℕ → ℕ → ℕ → Type 0
Between f n low a b =
    (a ≤ b) × (b ≤ n) × ((i : ℕ) → i < a → f i < low) × ((i : ℕ) → b ≤ i → i < n → low ≤ f i)
