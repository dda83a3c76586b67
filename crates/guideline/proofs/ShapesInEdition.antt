-- An answer with one of the shapes has it in each edition (P7): 115, 116 and 117 stand in a shape together, so that edition 1's 117 is in it too.
use Prim.Native.Nat.{ℕ}
use mathlib.Core.Path.{◌≡◌, refl}
use mathlib.Core.Bool.{Bool, true, false, cond, ◌&&◌, ◌||◌}
use mathlib.Core.List.{List, [], ◌∷◌}
use lib.Dec.{T, eqb, leb}
use borrow.Author.Tests.{eqb-true}
use Rattle.guideline.specs.Types.{Answer}
use Rattle.guideline.specs.Values.{former}
use Rattle.guideline.specs.Edition.{missing_frequency, former_signal, in_former, in_edition}
use Rattle.guideline.proofs.Shapes.{Shape, shapes, one_of, column, shaped, right}

-- every number of a list, as edition 1 gives it, is among these
abbrev former_among : List ℕ → List ℕ → Bool
former_among these [] = true
former_among these (x ∷ l) = one_of (former_signal x) these && former_among these l

former_one_of : (n : ℕ) (these l : List ℕ) → T (former_among these l) → T (one_of n l) → T (one_of (former_signal n) these)
former_one_of n these [] c h = absurd h
former_one_of n these (x ∷ l) c h =
    go (eqb n x) refl (one_of (former_signal x) these) refl c h (former_one_of n these l)
  where
    go : (s : Bool) → eqb n x ≡ s → (b : Bool) → one_of (former_signal x) these ≡ b → T (b && former_among these l) → T (s || one_of n l) → (T (former_among these l) → T (one_of n l) → T (one_of (former_signal n) these)) → T (one_of (former_signal n) these)
    go true e true k _ _ _ = rw (eqb-true n x e, k) tt
    go false e true k c' h' rec = rec c' h'
    go s e false k c' h' rec = absurd c'

abbrev shape_kept : Shape → Bool
shape_kept s = former_among s.answers s.answers && former_among s.suppressed s.suppressed

abbrev shapes_kept : List Shape → Bool
shapes_kept [] = true
shapes_kept (s ∷ more) = shape_kept s && shapes_kept more

first : (a b : Bool) → T (a && b) → T a
first true b h = tt
first false b h = elim h [ ]

second : (a b : Bool) → T (a && b) → T b
second true b h = h
second false b h = elim h [ ]

both : (p p' q q' : Bool) → (T p → T p') → (T q → T q') → T (p && q) → T (p' && q')
both true true q q' f g h = g h
both true false q q' f g h = f tt
both false _ q q' f g h = elim h [ ]

either : (p p' q q' : Bool) → (T p → T p') → (T q → T q') → T (p || q) → T (p' || q')
either true true q q' f g h = tt
either true false q q' f g h = absurd (f tt)
either false true q q' f g h = tt
either false false q q' f g h = g h

former_shaped : (a x t : ℕ) (b c r : Bool → Bool) (h l : ℕ) (m : List Shape) → T (shapes_kept m) → T (shaped a x t b c r h l m) → T (shaped (former_signal a) (former_signal x) t b c r h l m)
former_shaped a x t b c r h l [] k y = y
former_shaped a x t b c r h l (s ∷ more) k y =
    either (this a x) (this (former_signal a) (former_signal x)) (shaped a x t b c r h l more) (shaped (former_signal a) (former_signal x) t b c r h l more) (this_kept (first (shape_kept s) (shapes_kept more) k))
    (former_shaped a x t b c r h l more (second (shape_kept s) (shapes_kept more) k)) y
  where
    others : Bool
    others =
        one_of t s.tables && (b s.basis && (c s.category && (r s.rule && (leb h s.high && leb l s.low))))

    this : ℕ → ℕ → Bool
    this a' x' = one_of a' s.answers && (one_of x' s.suppressed && others)

    this_kept : T (shape_kept s) → T (this a x) → T (this (former_signal a) (former_signal x))
    this_kept one =
        both (one_of a s.answers) (one_of (former_signal a) s.answers) (one_of x s.suppressed && others) (one_of (former_signal x) s.suppressed && others) (former_one_of a s.answers s.answers (first (former_among s.answers s.answers) (former_among s.suppressed s.suppressed) one))
        (both (one_of x s.suppressed) (one_of (former_signal x) s.suppressed) others others (former_one_of x s.suppressed s.suppressed (second (former_among s.answers s.answers) (former_among s.suppressed s.suppressed) one)) (λ z. z))

all_kept : T (shapes_kept shapes)
unfolding former_signal missing_frequency
all_kept = tt

pub right_in_edition : (ok : ℕ → Bool) (edition : ℕ) (a : Answer) → T (right ok a) → T (right ok (in_edition edition a))
unfolding in_edition in_former
right_in_edition ok edition a h = go (eqb edition former)
  where
    go : (s : Bool) → T (right ok (cond s (in_former a) a))
    go true =
        former_shaped a.answer a.suppressed a.table (column ok a.basis) (column ok a.category) (column ok a.rule) a.high a.low shapes all_kept h
    go false = h
