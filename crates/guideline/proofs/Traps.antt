-- "Traps in this data" of document 01, as cases beside K1 to K15, which do not meet all of them: each answer follows from the paper's steps
-- by hand. The tables are the proof table with the rows of 004 for HPK 216267 and GPK 53015 in 730, and one row more in 643; a last code of 730
-- has amounts about the limits of 127 and 128, which take more than 32 bits. ExamplesOfTraps.antt proves them.
use Prim.Native.Nat.{ℕ, ◌/◌, ◌%◌}
use mathlib.Core.List.{List, [], ◌∷◌}
use Rattle.guideline.specs.Types.{T640, T641, T642, T643, T649, T730, T070}
use Rattle.guideline.specs.Entries.{blank}
use Rattle.guideline.specs.ProofTable.{Printed, proof_table, put, K1, Case, gives}

-- unit codes and kinds of code (SRTCDE) of documents 000 and 002
abbrev MG : ℕ
MG = 229

abbrev ML : ℕ
ML = 233

abbrev ST : ℕ
ST = 245

abbrev DR : ℕ
DR = 303

abbrev of_HPK : ℕ
of_HPK = 1

abbrev of_GPK : ℕ
of_GPK = 3

-- the numbers of a row of 730, of which the amount takes two
abbrev unit_of : ℕ → ℕ → ℕ → ℕ → List ℕ
unit_of kind code amount unit = kind ∷ code ∷ amount % 4_294_967_296 ∷ amount / 4_294_967_296 ∷ unit ∷ []

unfoldable pub tables : Printed
tables T640 = proof_table T640
tables T641 = proof_table T641
tables T642 = proof_table T642
tables T643 = (33784 ∷ 216000 ∷ 999999 ∷ 1 ∷ 46 ∷ 0 ∷ 999999 ∷ 0 ∷ 999999 ∷ 5 ∷ []) ∷ proof_table T643
tables T649 = proof_table T649
tables T070 = []
tables T730 =
    unit_of of_HPK 216267 1_000 ML
    ∷ unit_of of_HPK 216267 2_000 MG
    ∷ unit_of of_HPK 216267 20_000 DR
    ∷ unit_of of_GPK 53015 1_000 ST
    ∷ unit_of of_GPK 53015 400_000 ST
    ∷ unit_of of_GPK 53015 10 MG
    ∷ unit_of of_HPK 1 1_000 ML
    ∷ unit_of of_HPK 1 9_999_999_999 DR
    ∷ unit_of of_HPK 1 10_000_000_000 MG
    ∷ unit_of of_HPK 1 0 ST
    ∷ []

-- K1 with another age, weight and count
abbrev for_patient : ℕ → ℕ → ℕ → ℕ → ℕ
for_patient age weight count = put 3 age (put 5 weight (put 11 count K1))

-- K1 with another dose, in another unit
abbrev for_dose : ℕ → ℕ → ℕ → ℕ → ℕ → ℕ → ℕ → ℕ
for_dose lowest highest entered base srtcde code =
    put 13 lowest (put 14 highest (put 15 entered (put 16 base (put 17 srtcde (put 18 code K1)))))

unfoldable pub traps : List Case
traps =
    -- "Taking 999,999 as a real bound, which drops everybody from 1,000 months"
    gives (for_patient 1_000 75_000 2) (100 ∷ 0 ∷ 0 ∷ 1500 ∷ 33784 ∷ 1 ∷ 0 ∷ 0 ∷ [])
    -- "Matching count on one row and unit on another": 1 per 46 and 2 per 19 are no 1 per 19
    ∷ gives (for_patient 240 75_000 1) (115 ∷ 24 ∷ 0 ∷ 1500 ∷ 33784 ∷ 0 ∷ 0 ∷ 0 ∷ [])
    -- "Asking the weight because the category has kilogram rows, though age and frequency have removed them"
    ∷ gives (for_patient 215 blank 1) (100 ∷ 3 ∷ 0 ∷ 1500 ∷ 33784 ∷ 3 ∷ 2 ∷ 0 ∷ [])
    -- "Taking the first unit row": ST is there twice, as base unit and as entered unit
    ∷ gives (for_dose 2_000 2_000 MG ST of_GPK 53015) (123 ∷ 0 ∷ 730 ∷ 0 ∷ 0 ∷ 0 ∷ 0 ∷ 0 ∷ [])
    ∷ gives (for_dose 2_000 2_000 ST MG of_GPK 53015) (123 ∷ 0 ∷ 730 ∷ 0 ∷ 0 ∷ 0 ∷ 0 ∷ 0 ∷ [])
    -- "Dividing before comparing": 40 drops are 2 ml, the norm maximum; 40.001 drops are above it, 9.999 below the norm minimum
    ∷ gives (for_dose 10_000 40_000 DR ML of_HPK 216267) (100 ∷ 0 ∷ 0 ∷ 1500 ∷ 33784 ∷ 1 ∷ 0 ∷ 0 ∷ [])
    ∷ gives (for_dose 10_000 40_001 DR ML of_HPK 216267) (100 ∷ 1 ∷ 0 ∷ 1500 ∷ 33784 ∷ 1 ∷ 1 ∷ 0 ∷ [])
    ∷ gives (for_dose 9_999 40_000 DR ML of_HPK 216267) (100 ∷ 2 ∷ 0 ∷ 1500 ∷ 33784 ∷ 1 ∷ 0 ∷ 1 ∷ [])
    -- 128: "amount (CDHOEV) above 9,999,999,999"
    ∷ gives (for_dose 2_000 2_000 DR ML of_HPK 1) (100 ∷ 2 ∷ 0 ∷ 1500 ∷ 33784 ∷ 1 ∷ 0 ∷ 1 ∷ [])
    ∷ gives (for_dose 2_000 2_000 MG ML of_HPK 1) (128 ∷ 0 ∷ 730 ∷ 0 ∷ 0 ∷ 0 ∷ 0 ∷ 0 ∷ [])
    -- 127: "amount zero", before 128
    ∷ gives (for_dose 2_000 2_000 MG ST of_HPK 1) (127 ∷ 0 ∷ 730 ∷ 0 ∷ 0 ∷ 0 ∷ 0 ∷ 0 ∷ [])
    ∷ []
