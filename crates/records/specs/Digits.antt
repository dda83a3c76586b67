-- Characters at a place, decimal digits with zeros in front, and the number that digits say. A character is a byte: 48 is 0, and 57 is 9. Assumes nothing.
use Rattle.std.specs.Prelude.{ℕ, ◌+◌, ◌-◌, ◌*◌, Bool, true, false, cond, ◌&&◌, List, [], ◌∷◌, take, drop, leb, eqb}

-- k characters from the place at
abbrev pub chars : List ℕ → ℕ → ℕ → List ℕ
chars s at k = take k (drop at s)

-- the refusal unless the test is passed, and then what follows
abbrev pub unless : {A : Type 0} → Bool → A → A → A
unless passed refusal next = cond passed next refusal

abbrev pub same : List ℕ → List ℕ → Bool
same [] [] = true
same [] (b ∷ m) = false
same (a ∷ l) [] = false
same (a ∷ l) (b ∷ m) = eqb a b && same l m

abbrev pub digits_only : List ℕ → Bool
digits_only [] = true
digits_only (d ∷ l) = (leb 48 d && leb d 57) && digits_only l

-- the number that digits say, after the number a
abbrev pub horner : ℕ → List ℕ → ℕ
horner a [] = a
horner a (d ∷ l) = horner (a * 10 + (d - 48)) l
