-- Whether a record's numbers fit their parts, whatever the file. Assumes nothing.
use Prim.Native.Nat.{◌^◌}
use mathlib.Core.Bool.{true}
use mathlib.Core.List.{List, [], ◌∷◌}
use mathlib.Core.Path.{◌≡◌, refl}
use borrow.Author.Tests.{leb-true, ltb-true, le-leb, lt-ltb}
use lib.Dec.{leb, ltb}
use Rattle.records.specs.Layout.{Part, text, mutation, number, Values, fits, Within}
use Rattle.decimals.proofs.Cases.{and_split}
use Rattle.records.proofs.Bools.{and_both}

pub within_fits : (ps : List Part) (v : Values ps) → Within ps v → fits ps v ≡ true
unfolding fits
within_fits [] v w = refl
within_fits (text t ∷ ps) v w = within_fits ps v.1 w
within_fits (mutation ∷ ps) v w = and_both _ _ (le-leb v.0 3 w.0) (within_fits ps v.1 w.1)
within_fits (number k ∷ ps) v w = and_both _ _ (lt-ltb v.0 (10 ^ k) w.0) (within_fits ps v.1 w.1)

pub fits_within : (ps : List Part) (v : Values ps) → fits ps v ≡ true → Within ps v
unfolding fits
fits_within [] v e = tt
fits_within (text t ∷ ps) v e = fits_within ps v.1 e
fits_within (mutation ∷ ps) v e =
    let q = and_split (leb v.0 3) (fits ps v.1) e in
    (leb-true v.0 3 q.0, fits_within ps v.1 q.1)
fits_within (number k ∷ ps) v e =
    let q = and_split (ltb v.0 (10 ^ k)) (fits ps v.1) e in
    (ltb-true v.0 (10 ^ k) q.0, fits_within ps v.1 q.1)
