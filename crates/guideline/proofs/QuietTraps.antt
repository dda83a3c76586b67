-- Traps of P4, quiet on a missing frequency: each condition, each question and each comparison by itself, beside the cases of ProofTable.antt. Each answer
-- follows from 001, 3.4.2, by hand. A route of its own chooses each category; the entry is per day. ExamplesOfTraps.antt proves them.
use Prim.Native.Nat.{ℕ, ◌/◌, ◌%◌}
use mathlib.Core.List.{List, [], ◌∷◌}
use Rattle.guideline.specs.Types.{T640, T641, T642, T643, T649, T730, T070}
use Rattle.guideline.specs.Values.{off, on}
use Rattle.guideline.specs.Entries.{blank}
use Rattle.guideline.specs.ProofTable.{Printed, put, K1, Case, gives}

-- a row of a category, for any age, weight and surface; and for some weights; and for some surfaces
abbrev row : ℕ → ℕ → ℕ → ℕ → List ℕ
row category count unit rule =
    category ∷ 0 ∷ 999999 ∷ count ∷ unit ∷ 0 ∷ 999999 ∷ 0 ∷ 999999 ∷ rule ∷ []

abbrev for_weight : ℕ → ℕ → ℕ → ℕ → ℕ → List ℕ
for_weight category unit low high rule =
    category ∷ 0 ∷ 999999 ∷ 2 ∷ unit ∷ low ∷ high ∷ 0 ∷ 999999 ∷ rule ∷ []

abbrev for_surface : ℕ → ℕ → ℕ → ℕ → List ℕ
for_surface category low high rule =
    category ∷ 0 ∷ 999999 ∷ 2 ∷ 19 ∷ 0 ∷ 999999 ∷ low ∷ high ∷ rule ∷ []

-- an amount of SRTCDE 1 and CODE 2, which takes two numbers
abbrev amount : ℕ → ℕ → List ℕ
amount unit n = 1 ∷ 2 ∷ n % 4_294_967_296 ∷ n / 4_294_967_296 ∷ unit ∷ []

-- category 100 + n is chosen by route n, and Q general; category 150 by reason 5000
abbrev of_route : ℕ → ℕ → List ℕ
of_route route category = 5 ∷ 3 ∷ 17752 ∷ 0 ∷ route ∷ category ∷ []

unfoldable pub quiet_tables : Printed
quiet_tables T640 = (103136 ∷ 3 ∷ 0 ∷ []) ∷ (103137 ∷ 3 ∷ 1 ∷ []) ∷ []
quiet_tables T641 = (103136 ∷ 0 ∷ 0 ∷ 1 ∷ 5 ∷ []) ∷ (103137 ∷ 0 ∷ 0 ∷ 1 ∷ 5 ∷ []) ∷ []
quiet_tables T642 =
    of_route 1 101 ∷ of_route 2 102 ∷ of_route 3 103 ∷ of_route 4 104 ∷ of_route 5 105 ∷ of_route 6 106 ∷ of_route 7 107
    ∷ of_route 8 108 ∷ of_route 9 109 ∷ of_route 10 110 ∷ of_route 11 111 ∷ of_route 12 112 ∷ of_route 13 113
    ∷ (5 ∷ 3 ∷ 5000 ∷ 0 ∷ 0 ∷ 150 ∷ []) ∷ []
quiet_tables T643 =
    -- twice a day up to 1,000
    row 101 2 19 1
    -- once up to 1,000, 9 times up to 500
    ∷ row 102 1 19 1 ∷ row 102 9 19 2
    -- a rule more: with no limits in 649, with two rows, with a norm minimum
    ∷ row 103 2 19 1 ∷ row 103 9 19 9
    ∷ row 104 2 19 1 ∷ row 104 9 19 4
    ∷ row 105 2 19 1 ∷ row 105 9 19 5
    -- an absolute maximum only
    ∷ row 106 2 19 6
    -- by weight and by surface, where the other row's rule has a norm minimum
    ∷ for_weight 107 19 70000 80000 1 ∷ for_weight 107 19 0 70000 5
    ∷ for_surface 108 0 1500 1 ∷ for_surface 108 1500 999999 5
    -- weights that matter to a row of another unit only
    ∷ row 109 2 19 1 ∷ for_weight 109 21 70000 80000 1
    -- surfaces that matter to a row of another weight only
    ∷ for_weight 110 19 70000 999999 1 ∷ (110 ∷ 0 ∷ 999999 ∷ 2 ∷ 19 ∷ 0 ∷ 70000 ∷ 0 ∷ 1500 ∷ 1 ∷ [])
    -- no row per day
    ∷ row 111 2 21 1
    -- by weight, and nothing to be suppressed by
    ∷ for_weight 112 19 70000 80000 5
    -- the largest limit
    ∷ row 113 998 19 7
    ∷ row 150 2 19 1
    ∷ []
quiet_tables T649 =
    (1 ∷ 0 ∷ 1000 ∷ 0 ∷ [])
    ∷ (2 ∷ 0 ∷ 500 ∷ 0 ∷ [])
    ∷ (4 ∷ 0 ∷ 9000 ∷ 0 ∷ [])
    ∷ (4 ∷ 0 ∷ 9000 ∷ 0 ∷ [])
    ∷ (5 ∷ 1 ∷ 9000 ∷ 0 ∷ [])
    ∷ (6 ∷ 0 ∷ 0 ∷ 9000 ∷ [])
    ∷ (7 ∷ 0 ∷ 999_999_999 ∷ 0 ∷ [])
    ∷ []
-- drops in a millilitre (004), and amounts whose products pass 64 bits
quiet_tables T070 = []
quiet_tables T730 =
    amount 233 1_000 ∷ amount 303 20_000
    ∷ amount 229 9_991_000_000 ∷ amount 245 9_999_000_000 ∷ []

-- entered in another unit than the base unit
abbrev in_unit : ℕ → ℕ → (ℕ → ℕ) → ℕ → ℕ
in_unit entered base e = put 15 entered (put 16 base (put 17 1 (put 18 2 e)))

-- 3 times a day by a route, with quiet on: lowest and highest dose
abbrev by : ℕ → ℕ → ℕ → ℕ → ℕ
by route lowest highest = put 20 on (put 11 3 (put 10 route (put 13 lowest (put 14 highest K1))))

abbrev weighing : ℕ → (ℕ → ℕ) → ℕ → ℕ
weighing weight e = put 5 weight e

abbrev of_surface : ℕ → (ℕ → ℕ) → ℕ → ℕ
of_surface surface e = put 6 surface e

abbrev suppressed : ℕ → (ℕ → ℕ) → Case
suppressed category e = gives e (100 ∷ 0 ∷ 0 ∷ 5 ∷ category ∷ 0 ∷ 0 ∷ 0 ∷ 115 ∷ [])

abbrev stands : ℕ → (ℕ → ℕ) → Case
stands category e = gives e (115 ∷ 24 ∷ 0 ∷ 5 ∷ category ∷ 0 ∷ 0 ∷ 0 ∷ 0 ∷ [])

abbrev asks_weight : ℕ → (ℕ → ℕ) → Case
asks_weight category e = gives e (105 ∷ 10 ∷ 0 ∷ 5 ∷ category ∷ 0 ∷ 0 ∷ 0 ∷ 0 ∷ [])

abbrev asks_surface : ℕ → (ℕ → ℕ) → Case
asks_surface category e = gives e (106 ∷ 11 ∷ 0 ∷ 5 ∷ category ∷ 0 ∷ 0 ∷ 0 ∷ 0 ∷ [])

unfoldable pub quiet_traps : List Case
quiet_traps =
    -- the day dose: 3 times 666 is below twice 1,000, 3 times 667 is not. The highest dose counts
    suppressed 101 (by 1 666 666)
    ∷ stands 101 (by 1 667 667)
    ∷ stands 101 (by 1 1 667)
    -- off, not given; 2 is 125
    ∷ stands 101 (put 20 off (by 1 666 666))
    ∷ stands 101 (put 20 blank (by 1 666 666))
    ∷ gives (put 20 2 (by 1 666 666)) (125 ∷ [])
    -- a frequency that is found is compared
    ∷ gives (put 11 2 (by 1 666 666)) (100 ∷ 0 ∷ 0 ∷ 5 ∷ 101 ∷ 1 ∷ 0 ∷ 0 ∷ 0 ∷ [])
    -- the single dose: once 999 and once 1,000 are both below twice 1,000
    ∷ suppressed 101 (put 11 1 (by 1 999 999))
    ∷ stands 101 (put 11 1 (by 1 1_000 1_000))
    -- GPRISC; another setting; a reason that has none, so that Q general is chosen; another unit
    ∷ stands 101 (put 0 103137 (by 1 666 666))
    ∷ stands 150 (put 8 5000 (by 0 666 666))
    ∷ suppressed 101 (put 8 6000 (by 1 666 666))
    ∷ gives (put 12 21 (by 1 666 666)) (117 ∷ 8 ∷ 0 ∷ 5 ∷ 101 ∷ 0 ∷ 0 ∷ 0 ∷ 0 ∷ [])
    -- one rule's maximum is not taken with another's count; the second rule alone allows 499, both allow 333
    ∷ stands 102 (by 2 600 600)
    ∷ suppressed 102 (by 2 499 499)
    ∷ suppressed 102 (by 2 333 333)
    -- a rule without limits, with two rows, with a norm minimum, without a norm maximum
    ∷ stands 103 (by 3 1 1)
    ∷ stands 104 (by 4 1 1)
    ∷ stands 105 (by 5 1 1)
    ∷ stands 106 (by 6 1 1)
    -- weight: asked, fits one row or the other, fits none; not asked where it matters to a row of another unit only
    ∷ asks_weight 107 (weighing blank (by 7 1 1))
    ∷ suppressed 107 (by 7 1 1)
    ∷ stands 107 (weighing 60_000 (by 7 1 1))
    ∷ stands 107 (weighing 80_000 (by 7 1 1))
    ∷ suppressed 109 (weighing blank (by 9 1 1))
    -- asked although the comparison must fail
    ∷ asks_weight 112 (weighing blank (by 12 1 1))
    -- surface: the same, after the weight
    ∷ asks_surface 108 (by 8 1 1)
    ∷ suppressed 108 (of_surface 1_000 (by 8 1 1))
    ∷ stands 108 (of_surface 1_500 (by 8 1 1))
    ∷ suppressed 110 (by 10 1 1)
    ∷ asks_weight 110 (weighing blank (by 10 1 1))
    ∷ asks_surface 110 (weighing 60_000 (by 10 1 1))
    ∷ stands 110 (of_surface 1_500 (weighing 60_000 (by 10 1 1)))
    -- no row per day: 117, and 116 with the count
    ∷ gives (by 11 1 1) (117 ∷ 8 ∷ 0 ∷ 5 ∷ 111 ∷ 0 ∷ 0 ∷ 0 ∷ 0 ∷ [])
    ∷ gives (put 11 2 (by 11 1 1)) (116 ∷ 25 ∷ 0 ∷ 5 ∷ 111 ∷ 0 ∷ 0 ∷ 0 ∷ 0 ∷ [])
    -- in drops: 20 make a millilitre, so that 13,333 thousandths of a drop are 666.65 thousandths of a millilitre
    ∷ suppressed 101 (in_unit 303 233 (by 1 13_333 13_333))
    ∷ stands 101 (in_unit 303 233 (by 1 13_334 13_334))
    -- products past 64 bits, which compare the other way round if they are cut: 997 and 999 times the dose against 998 times the limit
    ∷ suppressed 113 (in_unit 245 229 (put 11 997 (by 13 999_999_999 999_999_999)))
    ∷ stands 113 (in_unit 245 229 (put 11 999 (by 13 999_999_999 999_999_999)))
    ∷ []
