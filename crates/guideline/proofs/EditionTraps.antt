-- Traps of P7, hosts on the former text set, over document 01's proof table: where edition 1 differs, where it does not, and the editions that are 125. Each
-- answer follows from P7 and the case of ProofTable.antt that it changes, by hand. ExamplesOfTraps.antt proves them.
use Prim.Native.Nat.{ℕ}
use mathlib.Core.List.{List, [], ◌∷◌}
use Rattle.guideline.specs.Values.{off, former, current}
use Rattle.guideline.specs.Entries.{blank}
use Rattle.guideline.specs.ProofTable.{put, K1, K1_quiet, Case, gives}

abbrev by : ℕ → (ℕ → ℕ) → ℕ → ℕ
by edition = put 21 edition

-- a dose as it is entered, lowest and highest alike
abbrev dose : ℕ → (ℕ → ℕ) → ℕ → ℕ
dose n f = put 13 n (put 14 n f)

abbrev pub former_117 : List ℕ
former_117 = 117 ∷ 8 ∷ 0 ∷ 1500 ∷ 33784 ∷ 0 ∷ 0 ∷ 0 ∷ 0 ∷ []

abbrev pub out_of_range : List ℕ
out_of_range = 125 ∷ 0 ∷ 0 ∷ 0 ∷ 0 ∷ 0 ∷ 0 ∷ 0 ∷ 0 ∷ []

-- 3 times a day at 60 kg, 999 each time: suppressed
abbrev suppressed : ℕ → ℕ
suppressed = put 5 60_000 (dose 999 K1_quiet)

unfoldable pub edition_traps : List Case
edition_traps =
    -- K11 in edition 1: 3 a day is no longer 115, per 46 no longer 116; both stay 117
    gives (by former (put 11 3 K1)) former_117
    ∷ gives (by former (put 12 46 K1)) former_117
    ∷ gives (by former (put 11 3 (put 12 46 K1))) former_117
    -- "and also as the suppressed number of P4"; the answer stays 100 with text 0
    ∷ gives (by former suppressed) (100 ∷ 0 ∷ 0 ∷ 1500 ∷ 33784 ∷ 0 ∷ 0 ∷ 0 ∷ 117 ∷ [])
    ∷ gives (by current suppressed) (100 ∷ 0 ∷ 0 ∷ 1500 ∷ 33784 ∷ 0 ∷ 0 ∷ 0 ∷ 115 ∷ [])
    -- a signal that is not suppressed, and one with quiet off
    ∷ gives (by former K1_quiet) former_117
    ∷ gives (by former (put 20 off suppressed)) former_117
    -- the question before the signals stands before edition 1's too
    ∷ gives (by former (put 5 blank K1_quiet)) (105 ∷ 10 ∷ 0 ∷ 1500 ∷ 33784 ∷ 0 ∷ 0 ∷ 0 ∷ 0 ∷ [])
    -- "Nothing else differs": 114 and 118, the neighbours; 100 with texts 0 to 3; 112, a question, and a refusal with a table
    ∷ gives (by former (put 3 71 K1)) (114 ∷ 13 ∷ 0 ∷ 1500 ∷ 33784 ∷ 0 ∷ 0 ∷ 0 ∷ 0 ∷ [])
    ∷ gives (by former (put 5 80_000 K1)) (118 ∷ 14 ∷ 0 ∷ 1500 ∷ 33784 ∷ 0 ∷ 0 ∷ 0 ∷ 0 ∷ [])
    ∷ gives (by former K1) (100 ∷ 0 ∷ 0 ∷ 1500 ∷ 33784 ∷ 1 ∷ 0 ∷ 0 ∷ 0 ∷ [])
    ∷ gives (by former (dose 2_001 K1)) (100 ∷ 1 ∷ 0 ∷ 1500 ∷ 33784 ∷ 1 ∷ 1 ∷ 0 ∷ 0 ∷ [])
    ∷ gives (by former (dose 3_001 K1)) (100 ∷ 3 ∷ 0 ∷ 1500 ∷ 33784 ∷ 1 ∷ 2 ∷ 0 ∷ 0 ∷ [])
    ∷ gives (by former (dose 499 K1)) (100 ∷ 2 ∷ 0 ∷ 1500 ∷ 33784 ∷ 1 ∷ 0 ∷ 1 ∷ 0 ∷ [])
    ∷ gives (by former (put 0 900001 (put 4 1 K1))) (112 ∷ 7 ∷ 0 ∷ 0 ∷ 0 ∷ 0 ∷ 0 ∷ 0 ∷ 0 ∷ [])
    ∷ gives (by former (put 0 900001 (put 4 2 K1))) (104 ∷ 16 ∷ 0 ∷ 0 ∷ 0 ∷ 0 ∷ 0 ∷ 0 ∷ 0 ∷ [])
    ∷ gives (by former (put 15 200 K1)) (126 ∷ 0 ∷ 730 ∷ 0 ∷ 0 ∷ 0 ∷ 0 ∷ 0 ∷ 0 ∷ [])
    -- 125: "An edition that is not given is 125, as is any other than 1 and 2"; before every other answer
    ∷ gives (by 0 K1) out_of_range
    ∷ gives (by 3 K1) out_of_range
    ∷ gives (by blank K1) out_of_range
    ∷ gives (by 257 (put 11 3 K1)) out_of_range
    ∷ gives (by 0 (put 0 0 K1)) out_of_range
    ∷ gives (by 3 suppressed) out_of_range
    ∷ []
