-- Traps of the time units: "Twins: 21 and 22, 50 and 51; with months on also 35 and 36, 40 and 41. Never 45 and 46." Each pair is
-- tried with months on, off and not given, which is off (P3). Category 7 has once a unit of each pair and twice the other, so that each pair is
-- tried both ways. ExamplesOfTraps.antt proves them.
use Prim.Native.Nat.{ℕ}
use mathlib.Core.List.{List, [], ◌∷◌, ◌++◌}
use Rattle.guideline.specs.Types.{T640, T641, T642, T643, T649, T730, T070}
use Rattle.guideline.specs.Values.{off, on}
use Rattle.guideline.specs.Entries.{blank}
use Rattle.guideline.specs.ProofTable.{Printed, put, K1, Case, gives}

-- a row for everybody: once or twice per unit, its own rule
abbrev per : ℕ → ℕ → ℕ → List ℕ
per count unit rule = 7 ∷ 0 ∷ 999999 ∷ count ∷ unit ∷ 0 ∷ 999999 ∷ 0 ∷ 999999 ∷ rule ∷ []

unfoldable pub twin_tables : Printed
twin_tables T640 = (103136 ∷ 3 ∷ 0 ∷ []) ∷ []
twin_tables T641 = (103136 ∷ 0 ∷ 0 ∷ 1 ∷ 5 ∷ []) ∷ []
twin_tables T642 = (5 ∷ 3 ∷ 17752 ∷ 0 ∷ 0 ∷ 7 ∷ []) ∷ []
twin_tables T643 =
    per 1 21 21 ∷ per 2 22 22 ∷ per 1 50 50 ∷ per 2 51 51 ∷ per 1 35 35 ∷ per 2 36 36 ∷ per 1 40 40 ∷ per 2 41 41 ∷ per 1 45 45 ∷ per 2 46 46 ∷ []
twin_tables T649 =
    (21 ∷ 0 ∷ 0 ∷ 0 ∷ [])
    ∷ (22 ∷ 0 ∷ 0 ∷ 0 ∷ [])
    ∷ (50 ∷ 0 ∷ 0 ∷ 0 ∷ [])
    ∷ (51 ∷ 0 ∷ 0 ∷ 0 ∷ [])
    ∷ (35 ∷ 0 ∷ 0 ∷ 0 ∷ [])
    ∷ (36 ∷ 0 ∷ 0 ∷ 0 ∷ [])
    ∷ (40 ∷ 0 ∷ 0 ∷ 0 ∷ [])
    ∷ (41 ∷ 0 ∷ 0 ∷ 0 ∷ [])
    ∷ []
twin_tables T730 = []
twin_tables T070 = []

-- K1 with another frequency and months setting
abbrev entered : ℕ → ℕ → ℕ → ℕ → ℕ
entered count unit months = put 11 count (put 12 unit (put 19 months K1))

-- checked against the rule of its twin; no row has the frequency, and some row has the unit
abbrev against : ℕ → ℕ → ℕ → ℕ → Case
against count unit months rule = gives (entered count unit months) (100 ∷ 0 ∷ 0 ∷ 5 ∷ 7 ∷ rule ∷ 0 ∷ 0 ∷ [])

abbrev no_twin : ℕ → ℕ → ℕ → Case
no_twin count unit months = gives (entered count unit months) (115 ∷ 24 ∷ 0 ∷ 5 ∷ 7 ∷ 0 ∷ 0 ∷ 0 ∷ [])

-- a pair that are twins always; with months on only; never
abbrev always : ℕ → ℕ → List Case
always a b =
    against 1 b off a ∷ against 1 b on a ∷ against 1 b blank a ∷ against 2 a off b ∷ against 2 a on b ∷ against 2 a blank b ∷ []

abbrev with_months_on : ℕ → ℕ → List Case
with_months_on a b = no_twin 1 b off ∷ against 1 b on a ∷ no_twin 1 b blank ∷ no_twin 2 a off ∷ against 2 a on b ∷ no_twin 2 a blank ∷ []

abbrev never : ℕ → ℕ → List Case
never a b = no_twin 1 b off ∷ no_twin 1 b on ∷ no_twin 1 b blank ∷ no_twin 2 a off ∷ no_twin 2 a on ∷ no_twin 2 a blank ∷ []

unfoldable pub twin_traps : List Case
twin_traps = always 21 22 ++ always 50 51 ++ with_months_on 35 36 ++ with_months_on 40 41 ++ never 45 46
