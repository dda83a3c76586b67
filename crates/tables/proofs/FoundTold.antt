-- What the code's answer tells of the hits that it stands for. Assumes nothing.
use mathlib.Core.Path.{◌≡◌, refl}
use Rattle.guideline.specs.Table.{Hits, None, One, Many}
use Rattle.guideline.proofs.Run.{told}
use Rattle.tables.specs.Found.{found}
use Rattle.tables.specs.declared.found.Found.{Found}
use Rattle.tables.specs.declared.found.Found.TheVariants.{Nothing, One as FoundOne, Many as FoundMany}

abbrev pub hits : {A : Type 0} → Found A → Hits A
hits Nothing = None
hits (FoundOne r) = One r
hits (FoundMany n) = Many n

pub found_told : {A : Type 0} (x : Hits A) {c k : Found A} → c ≡ found x → c ≡ k → x ≡ hits k
found_told {A} = told found hits back
  where
    back : (x : Hits A) → x ≡ hits (found x)
    back None = refl
    back (One r) = refl
    back (Many n) = refl
