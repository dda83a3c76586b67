-- The number of a part as its characters say it, and its refusal; and how large the numbers of a record that was read can be, field by field. Assumes nothing.
use Prim.Native.Nat.{ℕ, ◌+◌, ◌^◌, ◌≤◌, ◌<◌}
use mathlib.Core.Bool.{true, false}
use mathlib.Core.List.{List, [], ◌∷◌}
use mathlib.Core.Path.{◌≡◌, refl, sym}
use native.Mathlib.Omega.{arith}
use lib.ListN.{length}
use Rattle.std.specs.Prelude.{Ok, Err}
use Rattle.records.specs.Digits.{chars}
use Rattle.records.specs.Numbers.{field_of}
use Rattle.records.specs.Layout.{Part, text, mutation, number, Values, total, digit_part, value}
use Rattle.records.specs.Parts.{to_number, number_of}
use Rattle.records.specs.declared.ReadRefusal.{ReadRefusal}
use Rattle.records.specs.declared.ReadRefusal.TheVariants.{Digit}
use Rattle.records.proofs.Chars.{length_chars}
use Rattle.records.proofs.Numbers.{field_digits, field_said, field_below, field_none, refused_digit}

-- a part whose number was read, and one whose number was refused
pub number_said : (p : Part) (c : List ℕ) (n : ℕ) → number_of p c ≡ Ok n → (true ≡ digit_part p c) × (n ≡ to_number p (value p c))
number_said (text t) c n e = (refl, cc)
number_said mutation c n e = (sym (field_digits c n e), sym (field_said c n e))
number_said (number k) c n e = (sym (field_digits c n e), sym (field_said c n e))

pub number_refused : (p : Part) (c : List ℕ) (e : ReadRefusal) → number_of p c ≡ Err e → (false ≡ digit_part p c) × (e ≡ Digit)
number_refused (text t) c e h = absurd cc
number_refused mutation c e h = (sym (field_none c e h), refused_digit c e h)
number_refused (number k) c e h = (sym (field_none c e h), refused_digit c e h)

-- each field from the place on was read as its number
abbrev pub Fields : (ps : List Part) → ℕ → List ℕ → Values ps → Type 0
Fields [] at s v = Unit {0}
Fields (text t ∷ ps) at s v = Fields ps (at + length t) s v.1
Fields (mutation ∷ ps) at s v = (field_of (chars s at 1) ≡ Ok v.0) × Fields ps (at + 1) s v.1
Fields (number k ∷ ps) at s v = (field_of (chars s at k) ≡ Ok v.0) × Fields ps (at + k) s v.1

-- each has at most the digits of its field
abbrev pub Below : (ps : List Part) → Values ps → Type 0
Below [] v = Unit {0}
Below (text t ∷ ps) v = Below ps v.1
Below (mutation ∷ ps) v = (v.0 < 10) × Below ps v.1
Below (number k ∷ ps) v = (v.0 < 10 ^ k) × Below ps v.1

pub fields_below : (ps : List Part) (at : ℕ) (s : List ℕ) (v : Values ps) → Fields ps at s v → at + total ps ≤ length s → Below ps v
fields_below [] at s v r h = tt
fields_below (text t ∷ ps) at s v r h = fields_below ps (at + length t) s v.1 r (omega arith)
fields_below (mutation ∷ ps) at s v r h = (field_below _ _ r.0 1 (length_chars s at 1 (omega arith)), fields_below ps (at + 1) s v.1 r.1 (omega arith))
fields_below (number k ∷ ps) at s v r h = (field_below _ _ r.0 k (length_chars s at k (omega arith)), fields_below ps (at + k) s v.1 r.1 (omega arith))
