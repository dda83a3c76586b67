-- What is kept of a text and of more characters behind it. Assumes nothing.
use Prim.Native.Nat.{ℕ, ◌+◌, ◌-◌, ◌<◌, ◌≤◌}
use mathlib.Core.List.{List, [], ◌∷◌, ◌++◌, append_assoc}
use mathlib.Core.Path.{◌≡◌, refl, sym, ap, ◌∙◌}
use native.Mathlib.Omega.{arith}
use native.Mathlib.Nat.{not-suc-le-zero}
use lib.ListN.{length, get_or, take, drop, set, length-append}
use lib.Seq.{sets, sets-eq, drop-drop, set-set, take-suc, take-append-add, length-take-le}
use Rattle.decimals.proofs.Puts.{sets_append}
use Rattle.unit_lines.specs.Machine.{last_of, kept_most, shrunk, no_bytes, keep, text_of}
use Rattle.unit_lines.specs.declared.text.ListMachine.{ListMachine}
use Rattle.unit_lines.proofs.Shrunk.{shrunk_short, shrunk_long, length_shrunk, shrunk_more, kept_text, last_append}

pub keep_short : (t : List ℕ) → length t ≤ kept_most → keep t ≡ record { bytes = sets no_bytes 0 t; len = length t }
unfolding keep
keep_short t h = rw (shrunk_short t h)

last_put : (l v : List ℕ) (y x n : ℕ) → length v ≡ n → set (sets l 0 (v ++ (y ∷ []))) n x ≡ sets l 0 (v ++ (x ∷ []))
last_put l v y x n e =
    let z : 0 + length v ≡ n = omega arith in
    rw (sets_append l 0 v (y ∷ []), sets_append l 0 v (x ∷ []), z) (set-set (sets l 0 v) n y x)

pub last_none : (t : List ℕ) → length t ≡ 0 → last_of t ≡ 0
last_none [] h = refl
last_none (c ∷ t) h = absurd (let y : ⊥ = omega arith in y)

last_behind : (t u : List ℕ) → 0 < length u → last_of (t ++ u) ≡ last_of u
last_behind t [] h = absurd (not-suc-le-zero h)
last_behind t (c ∷ u) h = last_append t c u

-- a part of the bytes written over by the first n characters of a text
pub part_put : (l u new : List ℕ) (at n : ℕ) → at + n ≤ length l → n ≤ length u → new ≡ take n u → take at l ++ (new ++ drop (at + n - at) (drop at l)) ≡ sets l at (take n u)
part_put l u new at n h i e =
    let k : length (take n u) ≡ n = length-take-le n u i in
    let d : at + n - at ≡ n = omega arith in
    let j : at + length (take n u) ≤ length l = omega arith in
    rw (e, d, sets-eq (take n u) l at j, k, drop-drop n at l, append_assoc (take at l) (take n u) (drop (at + n) l))

-- a machine that holds nothing but its text
module _ (m : ListMachine) (e : m ≡ keep (text_of m)) where
  text_shrunk : shrunk (text_of m) ≡ text_of m
  text_shrunk = sym (kept_text (text_of m)) ∙ ap text_of (sym e)

  pub text_most : length (text_of m) ≤ kept_most
  text_most = rw text_shrunk at (length_shrunk (text_of m))

  plain : m ≡ record { bytes = sets no_bytes 0 (text_of m); len = length (text_of m) }
  plain = e ∙ keep_short (text_of m) text_most

  pub text_length : m.len ≡ length (text_of m)
  text_length = ap (λ (x : ListMachine). x.len) plain

  text_bytes : m.bytes ≡ sets no_bytes 0 (text_of m)
  text_bytes = ap (λ (x : ListMachine). x.bytes) plain

  behind : (u : List ℕ) → sets m.bytes m.len u ≡ sets no_bytes 0 (text_of m ++ u)
  behind u =
      let z : 0 + length (text_of m) ≡ length (text_of m) = omega arith in
      rw (sets_append no_bytes 0 (text_of m) u, z, ← text_bytes, ← text_length)

  pub more_all : (u : List ℕ) → m.len + length u ≤ kept_most → record { bytes = sets m.bytes m.len u; len = m.len + length u } ≡ keep (text_of m ++ u)
  more_all u h =
      let l : length (text_of m ++ u) ≡ m.len + length u = rw (length-append (text_of m) u, ← text_length) in
      rw (keep_short (text_of m ++ u) (rw l h), behind u, l)

  pub more_cut : (u : List ℕ) (n : ℕ) → m.len + n ≡ kept_most → n < length u
      → record { bytes = set (sets m.bytes m.len (take n u)) 65 (last_of u); len = m.len + n } ≡ keep (text_of m ++ u)
  unfolding keep
  more_cut u n h i =
      let w = text_of m ++ u in
      let l : 66 < length w = rw (length-append (text_of m) u, ← text_length) (omega arith) in
      let k : length (take 65 w) ≡ 65 = length-take-le 65 w (omega arith) in
      let a : length (text_of m) + n ≡ 66 = rw (← text_length) h in
      let f : text_of m ++ take n u ≡ take 65 w ++ (get_or w 65 0 ∷ []) = sym (take-append-add (text_of m) u n) ∙ rw a (take-suc w 65 0 (omega arith)) in
      let s : shrunk w ≡ take 65 w ++ (last_of u ∷ []) = shrunk_long w l ∙ rw (last_behind (text_of m) u (omega arith)) in
      let b : set (sets m.bytes m.len (take n u)) 65 (last_of u) ≡ sets no_bytes 0 (shrunk w) = rw (behind (take n u), f, s) (last_put no_bytes (take 65 w) (get_or w 65 0) (last_of u) 65 k) in
      let g : length (shrunk w) ≡ 66 = rw (s, length-append (take 65 w) (last_of u ∷ []), k) in
      rw (b, g, h)

keep_shrunk : (t u : List ℕ) → shrunk t ≡ shrunk u → keep t ≡ keep u
unfolding keep
keep_shrunk t u e = rw e

pub is_kept : (m : ListMachine) (t : List ℕ) → m ≡ keep t → m ≡ keep (text_of m)
is_kept m t e = e ∙ sym (rw (e, kept_text t) (keep_shrunk (shrunk t) t (shrunk_short (shrunk t) (length_shrunk t))))

pub keep_more : (m : ListMachine) (t u : List ℕ) → m ≡ keep t → keep (text_of m ++ u) ≡ keep (t ++ u)
keep_more m t u e = rw (e, kept_text t) (keep_shrunk (shrunk t ++ u) (t ++ u) (shrunk_more t u))
