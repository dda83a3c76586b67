-- P5, each condition and each number by itself: what an HPK brings, where it brings nothing, 123 and 133, their places, and table 70 in 121 and 122. Table 70
-- is document 004's five rows, and rows for four HPKs of our own, 11 to 14. Each answer follows from the papers by hand. ExamplesOfTraps.antt proves them.
use Prim.Native.Nat.{ℕ}
use mathlib.Core.Bool.{Bool, true, ◌&&◌}
use mathlib.Core.List.{List, [], ◌∷◌}
use Rattle.guideline.specs.Types.{T640, T641, T642, T643, T649, T730, T070}
use Rattle.guideline.specs.Entries.{blank}
use Rattle.guideline.specs.Rows.{Tables}
use Rattle.guideline.specs.Bytes.{Lents}
use Rattle.guideline.specs.Values.{on}
use Rattle.guideline.specs.ProofTable.{Printed, proof_table, bytes_printed, put, K1, Case, gives, agree}

-- HPK 11 and 12 have one row, 13 two equal ones, 14 two that differ
unfoldable pub hpk_tables : Printed
hpk_tables T640 =
    (16004 ∷ 3 ∷ 0 ∷ [])
    ∷ (124575 ∷ 3 ∷ 0 ∷ [])
    ∷ (53015 ∷ 3 ∷ 0 ∷ [])
    ∷ (122858 ∷ 3 ∷ 0 ∷ [])
    ∷ proof_table T640
-- GPK 16004 has a row for its PRK and 124575 for its HPK; 53015 one for its PRK and one for another HPK; 122858 one for another PRK
hpk_tables T641 =
    (16004 ∷ 5541 ∷ 0 ∷ 2 ∷ 1500 ∷ [])
    ∷ (16004 ∷ 0 ∷ 0 ∷ 1 ∷ 1600 ∷ [])
    ∷ (124575 ∷ 0 ∷ 1927043 ∷ 2 ∷ 1500 ∷ [])
    ∷ (124575 ∷ 0 ∷ 0 ∷ 1 ∷ 1600 ∷ [])
    ∷ (53015 ∷ 0 ∷ 999 ∷ 2 ∷ 1600 ∷ [])
    ∷ (53015 ∷ 21806 ∷ 0 ∷ 2 ∷ 1500 ∷ [])
    ∷ (53015 ∷ 0 ∷ 0 ∷ 1 ∷ 1600 ∷ [])
    ∷ (122858 ∷ 7 ∷ 0 ∷ 2 ∷ 1600 ∷ [])
    ∷ (122858 ∷ 0 ∷ 0 ∷ 1 ∷ 1500 ∷ [])
    ∷ proof_table T641
hpk_tables T642 = proof_table T642
hpk_tables T643 = proof_table T643
hpk_tables T649 = proof_table T649
hpk_tables T730 = []
hpk_tables T070 =
    (1709925 ∷ 76686 ∷ 1 ∷ 122858 ∷ 1 ∷ 1 ∷ [])
    ∷ (216267 ∷ 5541 ∷ 1 ∷ 16004 ∷ 1 ∷ 1 ∷ [])
    ∷ (709050 ∷ 65919 ∷ 1 ∷ 111368 ∷ 3 ∷ 3 ∷ [])
    ∷ (1927043 ∷ 79803 ∷ 1 ∷ 124575 ∷ 1 ∷ 1 ∷ [])
    ∷ (551805 ∷ 21806 ∷ 1 ∷ 53015 ∷ 1 ∷ 1 ∷ [])
    ∷ (11 ∷ 7001 ∷ 1 ∷ 900001 ∷ 1 ∷ 1 ∷ [])
    ∷ (12 ∷ 5 ∷ 0 ∷ 103136 ∷ 0 ∷ 0 ∷ [])
    ∷ (13 ∷ 7001 ∷ 1 ∷ 900001 ∷ 1 ∷ 1 ∷ [])
    ∷ (13 ∷ 7001 ∷ 1 ∷ 900001 ∷ 1 ∷ 1 ∷ [])
    ∷ (14 ∷ 7001 ∷ 1 ∷ 900001 ∷ 1 ∷ 1 ∷ [])
    ∷ (14 ∷ 7002 ∷ 1 ∷ 900001 ∷ 1 ∷ 1 ∷ [])
    ∷ []

-- K1 with another GPK, PRK and HPK; and K12, whose GPK 900001 has a row of its own in 641 for PRK 7001, for a woman
abbrev for_product : ℕ → ℕ → ℕ → ℕ → ℕ
for_product gpk prk hpk = put 0 gpk (put 1 prk (put 2 hpk K1))

abbrev K12_with : ℕ → ℕ → ℕ → ℕ → ℕ
K12_with gpk prk hpk = put 4 2 (for_product gpk prk hpk)

-- an answer before a basis is chosen
abbrev only : ℕ → ℕ → ℕ → List ℕ
only answer text table = answer ∷ text ∷ table ∷ 0 ∷ 0 ∷ 0 ∷ 0 ∷ 0 ∷ 0 ∷ []

abbrev differs : List ℕ
differs = only 133 0 0

abbrev several : List ℕ
several = only 123 0 70

-- rule 1 of the proof table; no setting for basis 1601
abbrev rule_1 : List ℕ
rule_1 = 100 ∷ 0 ∷ 0 ∷ 1500 ∷ 33784 ∷ 1 ∷ 0 ∷ 0 ∷ 0 ∷ []

abbrev of_prk_7001 : List ℕ
of_prk_7001 = 113 ∷ 0 ∷ 0 ∷ 1601 ∷ 0 ∷ 0 ∷ 0 ∷ 0 ∷ 0 ∷ []

abbrev quiet_for : ℕ → ℕ → ℕ → ℕ
quiet_for weight dose = put 5 weight (put 13 dose (put 14 dose (put 11 3 (put 20 on (for_product 0 blank 216267)))))

unfoldable pub hpk_traps : List Case
hpk_traps =
    -- a blank PRK: without an HPK, or with one that has no row, it is asked for; with HPK 11 it is not
    gives (K12_with 900001 blank blank) (only 104 16 0)
    ∷ gives (K12_with 900001 blank 99) (only 104 16 0)
    ∷ gives (K12_with 900001 blank 11) of_prk_7001
    -- a GPK of 0 likewise; GPK and PRK at once
    ∷ gives (for_product 0 blank blank) (only 110 0 0)
    ∷ gives (for_product 0 blank 99) (only 110 0 0)
    ∷ gives (for_product 0 5 12) rule_1
    ∷ gives (K12_with 0 blank 11) of_prk_7001
    -- 004: HPK 216267 brings PRK 5541 and GPK 16004, 1927043 its GPK, 709050 a GPK that is not in 640
    ∷ gives (for_product 0 blank 216267) rule_1
    ∷ gives (for_product 16004 blank blank) (only 104 16 0)
    ∷ gives (for_product 0 blank 1927043) rule_1
    ∷ gives (for_product 124575 blank blank) (only 103 16 0)
    ∷ gives (for_product 0 blank 709050) (only 111 16 0)
    -- 551805 is none of the HPKs of its GPK in 641, and brings the PRK that is; the PRK that 1709925 brings is none of those in 641
    ∷ gives (for_product 0 blank 551805) rule_1
    ∷ gives (for_product 53015 21806 blank) (only 103 16 0)
    ∷ gives (for_product 0 blank 1709925) rule_1
    ∷ gives (for_product 122858 blank blank) (only 104 16 0)
    -- what is given stands: without an HPK, with one that has no row, and where the row says the same
    ∷ gives (K12_with 900001 7001 blank) of_prk_7001
    ∷ gives (K12_with 900001 7001 99) of_prk_7001
    ∷ gives (K12_with 900001 7001 11) of_prk_7001
    -- 133: the PRK, the GPK or both differ from the row; a blank PRK and a GPK of 0 do not
    ∷ gives (K12_with 900001 7002 11) differs
    ∷ gives (K12_with 0 7002 11) differs
    ∷ gives (K12_with 103136 7001 11) differs
    ∷ gives (K12_with 103136 blank 11) differs
    ∷ gives (K12_with 103136 7002 11) differs
    -- 123: several rows, even where they agree; and before 133
    ∷ gives (K12_with 900001 7001 13) several
    ∷ gives (K12_with 900001 blank 13) several
    ∷ gives (K12_with 900001 7001 14) several
    ∷ gives (K12_with 103136 7003 14) several
    ∷ gives (K12_with 0 blank 13) several
    -- both stand after 125 and before step 2: MG is entered, and table 730 is empty
    ∷ gives (put 15 229 (K12_with 900001 7001 11)) (only 126 0 730)
    ∷ gives (put 15 229 (K12_with 900001 7002 11)) differs
    ∷ gives (put 15 229 (K12_with 900001 7001 13)) several
    ∷ gives (put 7 4 (K12_with 900001 7002 11)) (only 125 0 0)
    ∷ gives (put 7 4 (K12_with 900001 7001 13)) (only 125 0 0)
    -- what is asked after the filling: the age
    ∷ gives (put 3 blank (for_product 0 blank 216267)) (only 101 12 0)
    -- P4 after the filling: 3 times a day with quiet on, as in K1's table
    ∷ gives (quiet_for 75_000 2_000) (115 ∷ 24 ∷ 0 ∷ 1500 ∷ 33784 ∷ 0 ∷ 0 ∷ 0 ∷ 0 ∷ [])
    ∷ gives (quiet_for 60_000 999) (100 ∷ 0 ∷ 0 ∷ 1500 ∷ 33784 ∷ 0 ∷ 0 ∷ 0 ∷ 115 ∷ [])
    ∷ []

-- 122 of table 70: also where no HPK is given, after 125, before its own tests, after table 730
abbrev with_row : List ℕ → List (List ℕ) → Printed
with_row r units T640 = proof_table T640
with_row r units T641 = proof_table T641
with_row r units T642 = proof_table T642
with_row r units T643 = proof_table T643
with_row r units T649 = proof_table T649
with_row r units T730 = units
with_row r units T070 = r ∷ hpk_tables T070

unfoldable pub unsound_70_traps : List Case
unsound_70_traps =
    gives K1 (only 122 0 70)
    ∷ gives (K12_with 900001 7002 11) (only 122 0 70)
    ∷ gives (put 7 4 K1) (only 125 0 0)
    ∷ []

-- HPK, PRK and GPK 0, and one above the width of each field
unfoldable pub unsound_rows : List (List ℕ)
unsound_rows =
    (0 ∷ 7001 ∷ 1 ∷ 900001 ∷ 1 ∷ 1 ∷ [])
    ∷ (11 ∷ 0 ∷ 1 ∷ 900001 ∷ 1 ∷ 1 ∷ [])
    ∷ (11 ∷ 7001 ∷ 1 ∷ 0 ∷ 1 ∷ 1 ∷ [])
    ∷ (100_000_000 ∷ 7001 ∷ 1 ∷ 900001 ∷ 1 ∷ 1 ∷ [])
    ∷ (11 ∷ 100_000_000 ∷ 1 ∷ 900001 ∷ 1 ∷ 1 ∷ [])
    ∷ (11 ∷ 7001 ∷ 1_000_000 ∷ 900001 ∷ 1 ∷ 1 ∷ [])
    ∷ (11 ∷ 7001 ∷ 1 ∷ 100_000_000 ∷ 1 ∷ 1 ∷ [])
    ∷ (11 ∷ 7001 ∷ 1 ∷ 900001 ∷ 1_000_000 ∷ 1 ∷ [])
    ∷ (11 ∷ 7001 ∷ 1 ∷ 900001 ∷ 1 ∷ 1_000_000 ∷ [])
    ∷ []

abbrev pub all_refused : (Printed → Tables) → List (List ℕ) → Bool
all_refused f [] = true
all_refused f (r ∷ l) = agree (f (with_row r [])) unsound_70_traps && all_refused f l

unfoldable pub unsound_730_and_70 : Printed
unsound_730_and_70 = with_row (11 ∷ 7001 ∷ 1 ∷ 0 ∷ 1 ∷ 1 ∷ []) ((1_000_000 ∷ 1 ∷ 0 ∷ 0 ∷ 1 ∷ []) ∷ [])

unfoldable pub unsound_730_traps : List Case
unsound_730_traps = gives K1 (only 122 0 730) ∷ gives (K12_with 900001 7002 11) (only 122 0 730) ∷ []

-- 121 of table 70: one byte of it is lent, and a row of 640 is out of range, which is 122
unfoldable pub unsound_640 : Printed
unsound_640 T640 = (103136 ∷ 0 ∷ 0 ∷ []) ∷ []
unsound_640 T641 = proof_table T641
unsound_640 T642 = proof_table T642
unsound_640 T643 = proof_table T643
unsound_640 T649 = proof_table T649
unsound_640 T730 = []
unsound_640 T070 = []

unfoldable pub one_byte_of_70 : Lents
one_byte_of_70 T640 = bytes_printed unsound_640 T640
one_byte_of_70 T641 = bytes_printed unsound_640 T641
one_byte_of_70 T642 = bytes_printed unsound_640 T642
one_byte_of_70 T643 = bytes_printed unsound_640 T643
one_byte_of_70 T649 = bytes_printed unsound_640 T649
one_byte_of_70 T730 = []
one_byte_of_70 T070 = 0 ∷ []

unfoldable pub one_byte_traps : List Case
one_byte_traps = gives K1 (only 121 0 70) ∷ gives (K12_with 900001 7002 11) (only 121 0 70) ∷ []
