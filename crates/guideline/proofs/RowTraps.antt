-- Traps of the rows of table 643: the surface (106, 119) and its two ends, and 512 and 513 rows of a category (120). ExamplesOfTraps.antt
-- proves them.
use Prim.Native.Nat.{ℕ}
use mathlib.Core.List.{List, [], ◌∷◌}
use lib.ListN.{replicate}
use Rattle.guideline.specs.Types.{T640, T641, T642, T643, T649, T730, T070}
use Rattle.guideline.specs.Entries.{blank}
use Rattle.guideline.specs.ProofTable.{Printed, put, K1, Case, gives}

-- a row of category 7, twice a day, for a surface from 1 to 2 m2
abbrev by_surface : List ℕ
by_surface = 7 ∷ 0 ∷ 999999 ∷ 2 ∷ 19 ∷ 0 ∷ 999999 ∷ 1_000 ∷ 2_000 ∷ 9 ∷ []

-- the tables with these rows of 643
abbrev pub with_rows : List (List ℕ) → Printed
with_rows l T640 = (103136 ∷ 3 ∷ 0 ∷ []) ∷ []
with_rows l T641 = (103136 ∷ 0 ∷ 0 ∷ 1 ∷ 5 ∷ []) ∷ []
with_rows l T642 = (5 ∷ 3 ∷ 17752 ∷ 0 ∷ 0 ∷ 7 ∷ []) ∷ []
with_rows l T643 = l
with_rows l T649 = (9 ∷ 0 ∷ 0 ∷ 0 ∷ []) ∷ []
with_rows l T730 = []
with_rows l T070 = []

abbrev pub surface_rows : List (List ℕ)
surface_rows = by_surface ∷ []

unfoldable pub surface_traps : List Case
surface_traps =
    gives (put 6 blank K1) (106 ∷ 11 ∷ 0 ∷ 5 ∷ 7 ∷ 0 ∷ 0 ∷ 0 ∷ [])
    ∷ gives (put 6 999 K1) (119 ∷ 15 ∷ 0 ∷ 5 ∷ 7 ∷ 0 ∷ 0 ∷ 0 ∷ [])
    ∷ gives (put 6 1_000 K1) (100 ∷ 0 ∷ 0 ∷ 5 ∷ 7 ∷ 9 ∷ 0 ∷ 0 ∷ [])
    ∷ gives (put 6 1_999 K1) (100 ∷ 0 ∷ 0 ∷ 5 ∷ 7 ∷ 9 ∷ 0 ∷ 0 ∷ [])
    ∷ gives (put 6 2_000 K1) (119 ∷ 15 ∷ 0 ∷ 5 ∷ 7 ∷ 0 ∷ 0 ∷ 0 ∷ [])
    ∷ []

-- so many rows for another age: "Over 512 rows of the category in 643: 120"
abbrev pub rows_for_others : ℕ → List (List ℕ)
rows_for_others n = replicate n (7 ∷ 0 ∷ 12_000 ∷ 2 ∷ 19 ∷ 0 ∷ 999999 ∷ 0 ∷ 999999 ∷ 9 ∷ [])

unfoldable pub with_512 : List Case
with_512 = gives K1 (114 ∷ 13 ∷ 0 ∷ 5 ∷ 7 ∷ 0 ∷ 0 ∷ 0 ∷ []) ∷ []

unfoldable pub with_513 : List Case
with_513 = gives K1 (120 ∷ 0 ∷ 643 ∷ 5 ∷ 7 ∷ 0 ∷ 0 ∷ 0 ∷ []) ∷ []
