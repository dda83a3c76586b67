-- Traps of the bounds of table 643, as P1 reads them: rows that meet, rows with equal bounds, rows without an upper bound and rows that overlap,
-- each told by its count per day. ExamplesOfTraps.antt proves them.
use Prim.Native.Nat.{ℕ}
use mathlib.Core.List.{List, [], ◌∷◌, ◌++◌}
use Rattle.guideline.specs.Types.{T640, T641, T642, T643, T649, T730, T070}
use Rattle.guideline.specs.ProofTable.{Printed, put, K1, Case, gives}

-- a row of category 7 with bounds for one of the three
abbrev by_age : ℕ → ℕ → ℕ → ℕ → List ℕ
by_age count low high rule = 7 ∷ low ∷ high ∷ count ∷ 19 ∷ 0 ∷ 999999 ∷ 0 ∷ 999999 ∷ rule ∷ []

abbrev by_weight : ℕ → ℕ → ℕ → ℕ → List ℕ
by_weight count low high rule = 7 ∷ 0 ∷ 999999 ∷ count ∷ 19 ∷ low ∷ high ∷ 0 ∷ 999999 ∷ rule ∷ []

abbrev by_surface : ℕ → ℕ → ℕ → ℕ → List ℕ
by_surface count low high rule = 7 ∷ 0 ∷ 999999 ∷ count ∷ 19 ∷ 0 ∷ 999999 ∷ low ∷ high ∷ rule ∷ []

-- rule n has no limits
abbrev no_limits : ℕ → List ℕ
no_limits n = n ∷ 0 ∷ 0 ∷ 0 ∷ []

unfoldable pub fit_tables : Printed
fit_tables T640 = (103136 ∷ 3 ∷ 0 ∷ []) ∷ []
fit_tables T641 = (103136 ∷ 0 ∷ 0 ∷ 1 ∷ 5 ∷ []) ∷ []
fit_tables T642 = (5 ∷ 3 ∷ 17752 ∷ 0 ∷ 0 ∷ 7 ∷ []) ∷ []
fit_tables T643 =
    -- rows that meet
    by_age 1 0 216_000 1 ∷ by_age 1 216_000 999_999 2
    ∷ by_weight 2 0 70_000 3 ∷ by_weight 2 70_000 999_999 4
    ∷ by_surface 3 0 1_500 5 ∷ by_surface 3 1_500 999_999 6
    -- equal bounds
    ∷ by_age 4 240_000 240_000 7 ∷ by_weight 5 75_000 75_000 8 ∷ by_surface 6 1_500 1_500 9
    -- from 999,999 to 999,999
    ∷ by_age 7 999_999 999_999 10 ∷ by_weight 8 999_999 999_999 11
    -- rows that overlap
    ∷ by_weight 9 0 75_000 12 ∷ by_weight 9 70_000 80_000 13
    ∷ []
fit_tables T649 =
    no_limits 1 ∷ no_limits 2 ∷ no_limits 3 ∷ no_limits 4 ∷ no_limits 5 ∷ no_limits 6 ∷ no_limits 7
    ∷ no_limits 8 ∷ no_limits 9 ∷ no_limits 10 ∷ no_limits 11 ∷ no_limits 12 ∷ no_limits 13 ∷ []
fit_tables T730 = []
fit_tables T070 = []

-- K1 with another count, and age (number 3), weight (5) or surface (6)
abbrev aged : ℕ → ℕ → ℕ → ℕ
aged count x = put 11 count (put 3 x K1)

abbrev weighed : ℕ → ℕ → ℕ → ℕ
weighed count x = put 11 count (put 5 x K1)

abbrev of_surface : ℕ → ℕ → ℕ → ℕ
of_surface count x = put 11 count (put 6 x K1)

-- the rule that fits; no row for the weight; none for the surface; several. Where no row for the age has the count, others are there: 115
abbrev rule : (ℕ → ℕ) → ℕ → Case
rule e n = gives e (100 ∷ 0 ∷ 0 ∷ 5 ∷ 7 ∷ n ∷ 0 ∷ 0 ∷ [])

abbrev none_for_age : (ℕ → ℕ) → Case
none_for_age e = gives e (115 ∷ 24 ∷ 0 ∷ 5 ∷ 7 ∷ 0 ∷ 0 ∷ 0 ∷ [])

abbrev none_for_weight : (ℕ → ℕ) → Case
none_for_weight e = gives e (118 ∷ 14 ∷ 0 ∷ 5 ∷ 7 ∷ 0 ∷ 0 ∷ 0 ∷ [])

abbrev none_for_surface : (ℕ → ℕ) → Case
none_for_surface e = gives e (119 ∷ 15 ∷ 0 ∷ 5 ∷ 7 ∷ 0 ∷ 0 ∷ 0 ∷ [])

abbrev several : (ℕ → ℕ) → Case
several e = gives e (123 ∷ 0 ∷ 643 ∷ 5 ∷ 7 ∷ 0 ∷ 0 ∷ 0 ∷ [])

abbrev where_rows_meet : List Case
where_rows_meet =
    rule (aged 1 0) 1 ∷ rule (aged 1 215) 1 ∷ rule (aged 1 216) 2 ∷ rule (aged 1 1_800) 2
    ∷ rule (weighed 2 69_999) 3 ∷ rule (weighed 2 70_000) 4 ∷ rule (weighed 2 999_999) 4
    ∷ rule (of_surface 3 1_499) 5 ∷ rule (of_surface 3 1_500) 6 ∷ rule (of_surface 3 9_999) 6
    ∷ []

abbrev with_equal_bounds : List Case
with_equal_bounds =
    none_for_age (aged 4 239) ∷ rule (aged 4 240) 7 ∷ none_for_age (aged 4 241)
    ∷ none_for_weight (weighed 5 74_999) ∷ rule (weighed 5 75_000) 8 ∷ none_for_weight (weighed 5 75_001)
    ∷ none_for_surface (of_surface 6 1_499) ∷ rule (of_surface 6 1_500) 9 ∷ none_for_surface (of_surface 6 1_501)
    ∷ []

-- "A row from 999,999 to 999,999 has no upper bound": 999,999 thousandths are no whole month
abbrev without_upper_bound : List Case
without_upper_bound =
    none_for_age (aged 7 999) ∷ rule (aged 7 1_000) 10 ∷ rule (aged 7 1_800) 10
    ∷ none_for_weight (weighed 8 999_998) ∷ rule (weighed 8 999_999) 11
    ∷ []

-- P1 takes 123 from rows that meet only
abbrev where_rows_overlap : List Case
where_rows_overlap =
    rule (weighed 9 69_999) 12 ∷ several (weighed 9 70_000) ∷ several (weighed 9 74_999) ∷ rule (weighed 9 75_000) 13
    ∷ rule (weighed 9 79_999) 13 ∷ none_for_weight (weighed 9 80_000)
    ∷ []

unfoldable pub fit_traps : List Case
fit_traps = where_rows_meet ++ with_equal_bounds ++ without_upper_bound ++ where_rows_overlap
