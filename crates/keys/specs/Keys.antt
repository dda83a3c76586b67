-- The rows with a key: the next, the last, and the stretch of a view from the first to the last. f i is the key of row i.
use Rattle.std.specs.Prelude.{ℕ, ◌+◌, ◌-◌, ◌≤◌, ◌<◌, ◌≡◌, Bool, ◌||◌, List, eqb, Option, None, Some}
use Rattle.guideline.specs.declared.view.View.{View}
use Rattle.guideline.specs.Bytes.{cell}
use Rattle.cells.specs.Views.{narrowed}

-- number k of each row
abbrev pub key_of : List ℕ → View → ℕ → ℕ → ℕ
key_of l v k i = cell l v i k

-- no row from a on and below b has the key
abbrev pub Without : (ℕ → ℕ) → ℕ → ℕ → ℕ → Type 0
Without f key a b = (i : ℕ) → a ≤ i → i < b → f i ≡ key → ⊥

-- has the row the key; has one of four rows, from one on
abbrev pub has_key : (ℕ → ℕ) → ℕ → ℕ → Bool
has_key f key i = eqb (f i) key

unfoldable pub in_four : (ℕ → ℕ) → ℕ → ℕ → Bool
in_four f key i =
    (has_key f key i || has_key f key (i + 1)) || (has_key f key (i + 2) || has_key f key (i + 3))

-- the first of n rows with the key, from a row on, if there is one
abbrev pub Next : (ℕ → ℕ) → ℕ → ℕ → ℕ → Option ℕ → Type 0
Next f n key from None = Without f key from n
Next f n key from (Some r) = (from ≤ r) × (r < n) × Without f key from r × (f r ≡ key)

-- one past the last row with the key; `from` if there is none from there on
abbrev pub Past : (ℕ → ℕ) → ℕ → ℕ → ℕ → ℕ → Type 0
Past f n key from r = (from ≤ r) × (r ≤ n) × Without f key r n × (from < r → f (r - 1) ≡ key)

-- r is the rows of v from the first with the key to the last; no rows, if none has it
pub record Stretch (l : List ℕ) (v : View) (k key : ℕ) (r : View) : Type 0 where
  pub from : ℕ
  pub to : ℕ
  pub order : from ≤ to
  pub most : to ≤ v.rows
  pub before : Without (key_of l v k) key 0 from
  pub after : Without (key_of l v k) key to v.rows
  pub first : from < to → cell l v from k ≡ key
  pub last : from < to → cell l v (to - 1) k ≡ key
  pub cut : r ≡ narrowed v from to
