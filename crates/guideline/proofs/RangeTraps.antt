-- Both ends of each range of document 01: of the entry's fields (125) and of the tables' (122). An end is tried by the last number inside it
-- and the first outside. ExamplesOfTraps.antt proves them.
use Prim.Native.Nat.{ℕ}
use mathlib.Core.Bool.{Bool, true, false, not, cond, ◌&&◌}
use mathlib.Core.List.{List, [], ◌∷◌}
use lib.ListN.{get_or}
use Rattle.guideline.specs.Types.{TableName, T640, T641, T642, T643, T649, T730, T070}
use Rattle.guideline.specs.Rows.{read_row, sound_row}
use Rattle.guideline.specs.Entries.{blank, read_entry, in_range}
use Rattle.guideline.specs.ProofTable.{put, K1}

-- numbers that a field may hold, and numbers that it may not
pub record End : Type 0 where
  pub field : ℕ
  pub inside : List ℕ
  pub outside : List ℕ

abbrev end : ℕ → List ℕ → List ℕ → End
end k i o = record { field = k; inside = i; outside = o }

-- as a test says
abbrev all_pass : Bool → (ℕ → Bool) → List ℕ → Bool
all_pass b p [] = true
all_pass b p (n ∷ l) = cond b (p n) (not (p n)) && all_pass b p l

abbrev ends_hold : (ℕ → ℕ → Bool) → List End → Bool
ends_hold p [] = true
ends_hold p (x ∷ l) = all_pass true (p x.field) x.inside && (all_pass false (p x.field) x.outside && ends_hold p l)

abbrev most_code : ℕ
most_code = 99_999_999

-- a code; a code from 1; a unit or time unit; a count of table 70; a limit
abbrev code : ℕ → End
code k = end k (0 ∷ most_code ∷ []) (100_000_000 ∷ [])

abbrev code_from_1 : ℕ → End
code_from_1 k = end k (1 ∷ most_code ∷ []) (0 ∷ 100_000_000 ∷ [])

abbrev unit : ℕ → End
unit k = end k (0 ∷ 999_999 ∷ []) (1_000_000 ∷ [])

abbrev count_of_070 : ℕ → End
count_of_070 k = end k (0 ∷ 999_999 ∷ []) (1_000_000 ∷ [])

abbrev limit : ℕ → End
limit k = end k (0 ∷ 999_999_999 ∷ []) (1_000_000_000 ∷ [])

abbrev given_code : ℕ → End
given_code k = end k (blank ∷ 1 ∷ most_code ∷ []) (0 ∷ 100_000_000 ∷ [])

-- the entry: of K1, with reason 5000 where the reason is asked to be there
unfoldable pub entry_ends : List End
entry_ends =
    code 0
    ∷ given_code 1
    ∷ given_code 2
    ∷ end 3 (blank ∷ 0 ∷ 1_800 ∷ []) (1_801 ∷ [])
    ∷ end 4 (blank ∷ 1 ∷ 2 ∷ []) (0 ∷ 3 ∷ [])
    ∷ end 5 (blank ∷ 1 ∷ 999_999 ∷ []) (0 ∷ 1_000_000 ∷ [])
    ∷ end 6 (blank ∷ 1 ∷ 9_999 ∷ []) (0 ∷ 10_000 ∷ [])
    ∷ end 7 (2 ∷ 3 ∷ []) (1 ∷ 4 ∷ blank ∷ [])
    ∷ code 8
    -- "ICPCTO 0 to 2, which must be 0 without a reason"
    ∷ end 9 (0 ∷ []) (1 ∷ 2 ∷ 3 ∷ [])
    ∷ code 10
    ∷ end 11 (1 ∷ 999 ∷ []) (0 ∷ 1_000 ∷ [])
    ∷ unit 12
    -- lowest not above highest, which is 2,000
    ∷ end 13 (1 ∷ 2_000 ∷ []) (0 ∷ 2_001 ∷ [])
    ∷ end 14 (2_000 ∷ 999_999_999 ∷ []) (1_999 ∷ 1_000_000_000 ∷ [])
    ∷ unit 15
    ∷ unit 16
    ∷ unit 17
    ∷ code 18
    ∷ end 19 (blank ∷ 0 ∷ 1 ∷ []) (2 ∷ [])
    ∷ end 20 (blank ∷ 0 ∷ 1 ∷ []) (2 ∷ [])
    -- P7: an edition is never "not given"
    ∷ end 21 (1 ∷ 2 ∷ []) (0 ∷ 3 ∷ blank ∷ [])
    ∷ []

unfoldable pub entry_ends_with_reason : List End
entry_ends_with_reason = end 9 (0 ∷ 1 ∷ 2 ∷ []) (3 ∷ []) ∷ []

-- one sound row of each table, and the ends of its fields
abbrev sound_numbers : TableName → List ℕ
sound_numbers T640 = 1 ∷ 1 ∷ 0 ∷ []
sound_numbers T641 = 1 ∷ 0 ∷ 0 ∷ 1 ∷ 1 ∷ []
sound_numbers T642 = 1 ∷ 3 ∷ 1 ∷ 0 ∷ 0 ∷ 1 ∷ []
sound_numbers T643 = 1 ∷ 500_000 ∷ 500_000 ∷ 1 ∷ 19 ∷ 500_000 ∷ 500_000 ∷ 500_000 ∷ 500_000 ∷ 1 ∷ []
sound_numbers T649 = 1 ∷ 0 ∷ 0 ∷ 0 ∷ []
sound_numbers T730 = 1 ∷ 1 ∷ 0 ∷ 0 ∷ 1 ∷ []
sound_numbers T070 = 1 ∷ 1 ∷ 0 ∷ 1 ∷ 0 ∷ 0 ∷ []

-- "Bounds at most 999,999, low not above high"
abbrev low : ℕ → End
low k = end k (0 ∷ 500_000 ∷ []) (500_001 ∷ [])

abbrev high : ℕ → End
high k = end k (500_000 ∷ 999_999 ∷ []) (499_999 ∷ 1_000_000 ∷ [])

unfoldable pub table_ends : TableName → List End
table_ends T640 = code 0 ∷ end 1 (1 ∷ 3 ∷ []) (0 ∷ 4 ∷ []) ∷ end 2 (0 ∷ 1 ∷ []) (2 ∷ []) ∷ []
table_ends T641 = code 0 ∷ code 1 ∷ code 2 ∷ end 3 (1 ∷ 2 ∷ []) (0 ∷ 3 ∷ []) ∷ code_from_1 4 ∷ []
table_ends T642 =
    code_from_1 0 ∷ end 1 (2 ∷ 3 ∷ []) (1 ∷ 4 ∷ []) ∷ code 2 ∷ end 3 (0 ∷ 2 ∷ []) (3 ∷ []) ∷ code 4 ∷ code_from_1 5 ∷ []
table_ends T643 =
    code_from_1 0
    ∷ low 1
    ∷ high 2
    ∷ end 3 (1 ∷ 999 ∷ []) (0 ∷ 1_000 ∷ [])
    ∷ unit 4
    ∷ low 5
    ∷ high 6
    ∷ low 7
    ∷ high 8
    ∷ code_from_1 9
    ∷ []
table_ends T649 = code_from_1 0 ∷ limit 1 ∷ limit 2 ∷ limit 3 ∷ []
-- an amount of 999,999,999,999 is 232 times 4,294,967,296 and 3,567,587,327
table_ends T730 = unit 0 ∷ code 1 ∷ end 3 (0 ∷ 232 ∷ []) (233 ∷ []) ∷ unit 4 ∷ []
table_ends T070 = code_from_1 0 ∷ code_from_1 1 ∷ count_of_070 2 ∷ code_from_1 3 ∷ count_of_070 4 ∷ count_of_070 5 ∷ []

unfoldable pub amount_ends : List End
amount_ends = end 2 (0 ∷ 3_567_587_327 ∷ []) (3_567_587_328 ∷ []) ∷ []

abbrev pub entry_ends_hold : (ℕ → ℕ) → List End → Bool
entry_ends_hold e = ends_hold (λ k n. in_range (read_entry (put k n e)))

abbrev pub row_ends_hold : (n : TableName) → (ℕ → ℕ) → List End → Bool
row_ends_hold n f = ends_hold (λ k m. sound_row n (read_row n (put k m f)))

abbrev pub table_ends_hold : TableName → Bool
table_ends_hold n = row_ends_hold n (λ k. get_or (sound_numbers n) k 0) (table_ends n)

-- all of them
abbrev pub range_ends_hold : Bool
range_ends_hold =
    entry_ends_hold K1 entry_ends
    && (entry_ends_hold (put 8 5000 K1) entry_ends_with_reason
    && (table_ends_hold T640
    && (table_ends_hold T641
    && (table_ends_hold T642
    && (table_ends_hold T643
    && (table_ends_hold T649
    && (table_ends_hold T730
    && (row_ends_hold T730 (put 3 232 (λ k. get_or (sound_numbers T730) k 0)) amount_ends && table_ends_hold T070))))))))
