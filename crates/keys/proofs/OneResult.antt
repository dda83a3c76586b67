-- What `next` promises, one result only has; and what `stretch`, `halved` and `find` promise too, but for where a stretch of no rows begins. Assumes
-- nothing.
use Prim.Native.Nat.{ℕ, ◌-◌, ◌<◌, ◌≤◌}
use mathlib.Core.Path.{◌≡◌, refl, sym, ◌∙◌, ap}
use mathlib.Core.Bool.{Bool, true, false}
use mathlib.Core.List.{List}
use native.Mathlib.Omega.{arith}
use borrow.Author.Tests.{ltb-true, ltb-false}
use lib.Dec.{ltb}
use Rattle.std.specs.Prelude.{Option, None, Some}
use Rattle.guideline.specs.declared.view.View.{View}
use Rattle.keys.specs.Keys.{key_of, Next, Stretch}

not_less : (r s : ℕ) → (r < s → ⊥) → s ≤ r
not_less r s h = go (ltb r s) (ltb-true r s) (ltb-false r s)
  where
    go : (b : Bool) → (b ≡ true → r < s) → (b ≡ false → s ≤ r) → s ≤ r
    go true x y = absurd (h (x refl))
    go false x y = y refl

not_more : (r s : ℕ) → (r ≤ s → ⊥) → s < r
not_more r s h = go (ltb s r) (ltb-true s r) (ltb-false s r)
  where
    go : (b : Bool) → (b ≡ true → s < r) → (b ≡ false → r ≤ s) → s < r
    go true x y = x refl
    go false x y = absurd (h (y refl))

module _ (f : ℕ → ℕ) (n key from : ℕ) where
  next_not_before : (r s : ℕ) → Next f n key from (Some r) → Next f n key from (Some s) → r < s → ⊥
  next_not_before r s p q less = q.2 r p.0 less p.3

  pub next_one : (r s : Option ℕ) → Next f n key from r → Next f n key from s → r ≡ s
  next_one None None p q = refl
  next_one None (Some s) p q = absurd (p s q.0 q.1 q.3)
  next_one (Some r) None p q = absurd (q r p.0 p.1 p.3)
  next_one (Some r) (Some s) p q =
      let a : s ≤ r = not_less r s (next_not_before r s p q) in
      let b : r ≤ s = not_less s r (next_not_before s r q p) in
      ap Some (let e : r ≡ s = omega arith in e)

module _ {l : List ℕ} {v p : View} {k key : ℕ} (c : Stretch l v k key p) where
  -- no row has the key
  pub stretch_none : ((i : ℕ) → i < v.rows → key_of l v k i ≡ key → ⊥) → p.rows ≡ 0
  stretch_none none =
      let h : c.to ≤ c.from = not_less c.from c.to (λ some. none c.from (omega (arith, c.most)) (c.first some)) in
      let e : p.rows ≡ c.to - c.from = ap (λ (x : View). x.rows) c.cut in
      omega arith

  -- a row with the key is a row of the stretch
  module _ (i : ℕ) (row : i < v.rows) (same : key_of l v k i ≡ key) where
    stretch_from : c.from ≤ i
    stretch_from = not_less i c.from (λ less. c.before i (omega arith) less same)

    stretch_to : i < c.to
    stretch_to = not_more c.to i (λ more. c.after i more row same)

module _ {l : List ℕ} {v p q : View} {k key : ℕ} (c : Stretch l v k key p) (d : Stretch l v k key q) (i : ℕ) (row : i < v.rows) (same : key_of l v k i ≡ key) where
  from_most : d.from ≤ c.from
  from_most =
      let x : c.from ≤ i = stretch_from c i row same in
      let y : i < c.to = stretch_to c i row same in
      stretch_from d c.from (omega arith) (c.first (omega arith))

  to_most : c.to ≤ d.to
  to_most =
      let x : c.from ≤ i = stretch_from c i row same in
      let y : i < c.to = stretch_to c i row same in
      let z : c.to - 1 < d.to = stretch_to d (c.to - 1) (omega (arith, c.most)) (c.last (omega arith)) in
      omega arith

pub stretch_one :
    {l : List ℕ} {v p q : View} {k key : ℕ} → Stretch l v k key p → Stretch l v k key q → (i : ℕ) → i < v.rows → key_of l v k i ≡ key → p ≡ q
stretch_one {l} {v} {p} {q} c d i row same =
    let a : c.from ≡ d.from = omega (arith, from_most c d i row same, from_most d c i row same) in
    let b : c.to ≡ d.to = omega (arith, to_most c d i row same, to_most d c i row same) in
    c.cut ∙ rw (a, b) (sym d.cut)
