-- A file's record as a list of parts, and what reading and writing such a record mean, whatever the file, in document 01's numbers. Assumes nothing.
use Rattle.std.specs.Prelude.{ℕ, zero, suc, ◌+◌, ◌^◌, ◌≤◌, ◌<◌, Bool, true, ◌&&◌, List, [], ◌∷◌, ◌++◌, length, take, drop, leb, ltb, eqb}
use Rattle.records.specs.Digits.{chars, unless, same, digits_only, horner}
use Rattle.decimals.specs.Decimal.{digits}

-- fixed text; the mutation digit, 0 to 3; a number of so many digits
pub data Part : Type 0 where
  text : List ℕ → Part
  mutation : Part
  number : ℕ → Part

abbrev pub width : Part → ℕ
width (text t) = length t
width mutation = 1
width (number k) = k

-- what a part says: fixed text says nothing
abbrev pub Value : Part → Type 0
Value (text t) = Unit {0}
Value mutation = ℕ
Value (number k) = ℕ

abbrev pub Values : List Part → Type 0
Values [] = Unit {0}
Values (p ∷ ps) = Value p × Values ps

-- the numbers in the file's order, and as many zeros
abbrev pub in_order : (ps : List Part) → Values ps → List ℕ
in_order [] v = []
in_order (text t ∷ ps) v = in_order ps v.1
in_order (mutation ∷ ps) v = v.0 ∷ in_order ps v.1
in_order (number k ∷ ps) v = v.0 ∷ in_order ps v.1

abbrev pub zeros : List Part → List ℕ
zeros [] = []
zeros (text t ∷ ps) = zeros ps
zeros (mutation ∷ ps) = 0 ∷ zeros ps
zeros (number k ∷ ps) = 0 ∷ zeros ps

abbrev pub total : List Part → ℕ
total [] = 0
total (p ∷ ps) = width p + total ps

-- 202: a fixed part differs
abbrev pub fixed_part : Part → List ℕ → Bool
fixed_part (text t) c = same t c
fixed_part mutation c = true
fixed_part (number k) c = true

-- 203: a digit is expected and absent
abbrev pub digit_part : Part → List ℕ → Bool
digit_part (text t) c = true
digit_part mutation c = digits_only c
digit_part (number k) c = digits_only c

-- 204: the mutation digit is above 3
abbrev pub mutation_part : Part → List ℕ → Bool
mutation_part (text t) c = true
mutation_part mutation c = leb (horner 0 c) 3
mutation_part (number k) c = true

-- every part, from the place at on, passes the test
unfoldable pub every : (Part → List ℕ → Bool) → List Part → ℕ → List ℕ → Bool
every test [] at s = true
every test (p ∷ ps) at s = test p (chars s at (width p)) && every test ps (at + width p) s

abbrev pub value : (p : Part) → List ℕ → Value p
value (text t) c = tt
value mutation c = horner 0 c
value (number k) c = horner 0 c

unfoldable pub values : (ps : List Part) → ℕ → List ℕ → Values ps
values [] at s = tt
values (p ∷ ps) at s = (value p (chars s at (width p)), values ps (at + width p) s)

-- what was read, or the number of the refusal
pub data Reading (A : Type 0) : Type 0 where
  said : A → Reading A
  refused : ℕ → Reading A

abbrev pub read_by : {A B : Type 0} → (A → B) → Reading A → Reading B
read_by f (said v) = said (f v)
read_by f (refused n) = refused n

unfoldable pub numbers : (ps : List Part) → List ℕ → Reading (Values ps)
numbers ps s =
    unless (every digit_part ps 0 s) (refused 203)
    (unless (every mutation_part ps 0 s) (refused 204)
    (said (values ps 0 s)))

-- reading a record: the tests in document 01's order, all fixed parts before any digit
unfoldable pub scan : (ps : List Part) → List ℕ → Reading (Values ps)
scan ps s =
    unless (eqb (length s) (total ps)) (refused 201)
    (unless (every fixed_part ps 0 s) (refused 202)
    (numbers ps s))

-- 205: a number is too wide, or the mutation digit above 3
abbrev pub fits_part : (p : Part) → Value p → Bool
fits_part (text t) v = true
fits_part mutation v = leb v 3
fits_part (number k) v = ltb v (10 ^ k)

unfoldable pub fits : (ps : List Part) → Values ps → Bool
fits [] v = true
fits (p ∷ ps) v = fits_part p v.0 && fits ps v.1

-- each number has at most the digits of its field, and the mutation digit is at most 3
abbrev pub Within : (ps : List Part) → Values ps → Type 0
Within [] v = Unit {0}
Within (text t ∷ ps) v = Within ps v.1
Within (mutation ∷ ps) v = (v.0 ≤ 3) × Within ps v.1
Within (number k ∷ ps) v = (v.0 < 10 ^ k) × Within ps v.1

abbrev pub spelt : (p : Part) → Value p → List ℕ
spelt (text t) v = t
spelt mutation v = digits 1 v
spelt (number k) v = digits k v

-- the characters that a record writes
unfoldable pub spell : (ps : List Part) → Values ps → List ℕ
spell [] v = []
spell (p ∷ ps) v = spelt p v.0 ++ spell ps v.1

-- the answer to writing at a place of a buffer with that room: 0 where it is done
unfoldable pub answer : (ps : List Part) → Values ps → ℕ → ℕ → ℕ
answer ps v at room =
    unless (fits ps v) 205
    (unless (leb (at + total ps) room) 206
    0)

-- the buffer after that answer: the new characters at the place and nothing else touched, or all as it was
abbrev pub after : ℕ → List ℕ → ℕ → List ℕ → List ℕ
after zero old at new = take at old ++ (new ++ drop (at + length new) old)
after (suc n) old at new = old

-- what writing leaves in the buffer
unfoldable pub leaving : (ps : List Part) → Values ps → ℕ → List ℕ → List ℕ
leaving ps v at old = after (answer ps v at (length old)) old at (spell ps v)
