-- The range of each datum, and the part of an entry that is never blank.
use Prim.Native.Nat.{ℕ}
use mathlib.Core.Path.{◌≡◌, refl}
use mathlib.Core.Bool.{true, ◌&&◌}
use Rattle.std.proofs.lemmas.Bool.{and_parts}
use Rattle.guideline.specs.declared.entries.Datum.{Datum}
use Rattle.guideline.specs.declared.entries.Datum.TheVariants.{Age, Sex, Hpk, Prk, Weight, Surface}
use Rattle.guideline.specs.Types.{Value, Blank, Given, Switch, NotGiven, Position}
use Rattle.guideline.specs.declared.entries.Data.{Data}
use Rattle.guideline.specs.declared.entries.Entry.{Entry}
use Rattle.guideline.specs.declared.range.Range.{Range}
use Rattle.guideline.specs.Values.{within, codes_from_1, ages, weights, surfaces, sexes, positions}
use Rattle.guideline.specs.Entries.{datum, permitted, datum_in_range, switch_in_range, prescription_in_range, each, in_range}
use Rattle.entry.specs.Given.{within_if_given}

datum_ranged : (x : Datum) (r : Range) → ((n : ℕ) → within r n ≡ permitted x n) → (v : Value) → within_if_given r v ≡ datum_in_range x v
datum_ranged x r h Blank = refl
datum_ranged x r h (Given n) = h n

-- the six data in the order of `each`, each with its range
pub data_ranged : (d : Data) → (within_if_given ages d.age && (within_if_given sexes d.sex && (within_if_given codes_from_1 d.hpk && (within_if_given codes_from_1 d.prk && (within_if_given weights d.weight && within_if_given surfaces d.surface))))) ≡ each (λ x. datum_in_range x (datum d x))
unfolding permitted
data_ranged d =
    rw (datum_ranged Age ages (λ n. refl) d.age, datum_ranged Sex sexes (λ n. refl) d.sex, datum_ranged Hpk codes_from_1 (λ n. refl) d.hpk, datum_ranged Prk codes_from_1 (λ n. refl) d.prk, datum_ranged Weight weights (λ n. refl) d.weight, datum_ranged Surface surfaces (λ n. refl) d.surface)

-- a setting of the host that may be not given
pub switch_ranged : (s : Switch) → within_if_given positions s ≡ switch_in_range s
switch_ranged NotGiven = refl
switch_ranged (Position n) = refl

-- the part that is never blank is in range where the entry is
pub prescription_fine : (e : Entry) → in_range e ≡ true → prescription_in_range e.rest ≡ true
unfolding in_range
prescription_fine e h = (and_parts (prescription_in_range e.rest) _ h).0
