-- P2 on K1 of the proof table: "1 to 3 times a day", both ends of each refusal, and which of two faults is said. P7 on the same. P3 on the twins of weeks and
-- months.
-- On rows and on bytes.
use Prim.Native.Nat.{ℕ, zero, suc}
use mathlib.Core.Bool.{Bool, true, ◌&&◌}
use mathlib.Core.List.{List, [], ◌∷◌, ◌++◌}
use lib.Dec.{T, eqb}
use Rattle.guideline.specs.Types.{Counted, AllCounts, RangeRefused}
use Rattle.guideline.specs.Bytes.{spelled}
use Rattle.guideline.specs.Values.{off, on, former}
use Rattle.guideline.specs.Entries.{blank, read_entry}
use Rattle.guideline.specs.Rows.{Tables}
use Rattle.guideline.specs.Counts.{in_turn, counted, refusal_number, list_after}
use Rattle.guideline.specs.ProofTable.{proof_table, rows_printed, bytes_printed, K1, put, same}
use Rattle.guideline.proofs.Opened.{opened}
use Rattle.guideline.proofs.TwinTraps.{twin_tables}
use Rattle.guideline.proofs.EditionTraps.{former_117, out_of_range}

-- a list of so many places, with two numbers that are no place; 7 stands in all of them
abbrev sevens : ℕ → List ℕ
sevens zero = 7 ∷ 7 ∷ []
sevens (suc n) = 7 ∷ 7 ∷ 7 ∷ 7 ∷ 7 ∷ 7 ∷ 7 ∷ 7 ∷ 7 ∷ sevens n

-- a range of an entry: the refusal, and the list after the call
pub record Range : Type 0 where
  pub entry : ℕ → ℕ
  pub first : ℕ
  pub last : ℕ
  pub places : ℕ
  pub refusal : ℕ
  pub list : List ℕ

-- K1, with its own count changed
abbrev range : ℕ → ℕ → ℕ → ℕ → ℕ → List ℕ → Range
range own first last places refusal list =
    record { entry = put 11 own K1; first = first; last = last; places = places; refusal = refusal; list = list }

-- at K1's age all rows are for twice a day
abbrev other_count : List ℕ
other_count = 115 ∷ 24 ∷ 0 ∷ 1500 ∷ 33784 ∷ 0 ∷ 0 ∷ 0 ∷ 0 ∷ []

abbrev twice : List ℕ
twice = 100 ∷ 0 ∷ 0 ∷ 1500 ∷ 33784 ∷ 1 ∷ 0 ∷ 0 ∷ 0 ∷ []

-- P7: K1 in an edition
abbrev range_in : ℕ → ℕ → ℕ → ℕ → ℕ → List ℕ → Range
range_in edition first last places refusal list =
    record { entry = put 21 edition K1; first = first; last = last; places = places; refusal = refusal; list = list }

-- 125, `out_of_range`: a count of 0 or above 999; a setting of 2; an edition that is neither 1 nor 2

unfoldable pub ranges : List Range
ranges =
    -- 1 to 3, in a list of just so many places, and in a longer one
    range 2 1 3 3 0 (other_count ++ twice ++ other_count ++ sevens 0)
    ∷ range 2 1 3 5 0 (other_count ++ twice ++ other_count ++ sevens 2)
    -- one count; the entry's own is not looked at, be it in range or not
    ∷ range 3 2 2 1 0 (twice ++ sevens 0)
    ∷ range 0 2 2 2 0 (twice ++ sevens 1)
    -- 125 at its place
    ∷ range 2 0 2 3 0 (out_of_range ++ other_count ++ twice ++ sevens 0)
    ∷ range 2 999 1_000 2 0 (other_count ++ out_of_range ++ sevens 0)
    -- 131: the first above the last; before 132, and before 125
    ∷ range 2 3 2 4 131 (sevens 4)
    ∷ range 0 3 2 0 131 (sevens 0)
    -- 131: 17 counts, where 16 pass; and 4,294,967,296, which must not be taken for 0
    ∷ range 2 1 17 17 131 (sevens 17)
    ∷ range 2 1_000 1_015 16 0 (out_of_range ++ out_of_range ++ out_of_range ++ out_of_range ++ out_of_range ++ out_of_range ++ out_of_range ++ out_of_range ++ out_of_range ++ out_of_range ++ out_of_range ++ out_of_range ++ out_of_range ++ out_of_range ++ out_of_range ++ out_of_range ++ sevens 0)
    ∷ range 2 0 4_294_967_295 1 131 (sevens 1)
    -- 132: a place too few, none; before 125
    ∷ range 2 1 3 2 132 (sevens 2)
    ∷ range 2 2 2 0 132 (sevens 0)
    ∷ range 0 1 16 15 132 (sevens 15)
    -- P7: edition 1 at each place; an edition that is not given is 125 at each, behind 131 and 132
    ∷ range_in former 1 3 3 0 (former_117 ++ twice ++ former_117 ++ sevens 0)
    ∷ range_in blank 1 2 2 0 (out_of_range ++ out_of_range ++ sevens 0)
    ∷ range_in 3 2 1 2 131 (sevens 2)
    ∷ range_in 0 1 2 1 132 (sevens 1)
    ∷ []

-- P3. Per 36 and per 41 category 7 has twice, and once their twins 35 and 40 (TwinTraps): with the setting on, and where none is given, 1 to 2
-- times is checked against both; with off one of them has no row. A setting other than on and off is 125 at each place
abbrev by_rule : ℕ → List ℕ
by_rule rule = 100 ∷ 0 ∷ 0 ∷ 5 ∷ 7 ∷ rule ∷ 0 ∷ 0 ∷ 0 ∷ []

abbrev no_row : List ℕ
no_row = 115 ∷ 24 ∷ 0 ∷ 5 ∷ 7 ∷ 0 ∷ 0 ∷ 0 ∷ 0 ∷ []

abbrev once_or_twice : ℕ → ℕ → List ℕ → Range
once_or_twice unit months list =
    record { entry = put 12 unit (put 19 months K1); first = 1; last = 2; places = 2; refusal = 0; list = list ++ sevens 0 }

abbrev months_tried : ℕ → ℕ → List Range
months_tried a b =
    once_or_twice b blank (by_rule a ++ by_rule b)
    ∷ once_or_twice b on (by_rule a ++ by_rule b)
    ∷ once_or_twice b off (no_row ++ by_rule b)
    ∷ once_or_twice a blank (by_rule a ++ by_rule b)
    ∷ once_or_twice a on (by_rule a ++ by_rule b)
    ∷ once_or_twice a off (by_rule a ++ no_row)
    ∷ once_or_twice a 2 (out_of_range ++ out_of_range)
    ∷ []

unfoldable pub ranges_of_months : List Range
ranges_of_months = months_tried 35 36 ++ months_tried 40 41

-- 0 where there is no refusal
abbrev number : Counted → ℕ
number (AllCounts n) = 0
number (RangeRefused why) = refusal_number why

abbrev holds : Tables → Range → Bool
holds t r =
    let e = read_entry r.entry in
    eqb (number (counted r.first r.last r.places)) r.refusal
    && same (list_after t e r.first r.last (sevens r.places)) r.list

abbrev pub all_hold : Tables → List Range → Bool
all_hold t [] = true
all_hold t (r ∷ l) = holds t r && all_hold t l

pub counts_of_K1 : T (all_hold (rows_printed proof_table) ranges)
unfolding opened in_turn counted list_after ranges
counts_of_K1 = tt

pub counts_of_K1_as_bytes : T (all_hold (spelled (bytes_printed proof_table)) ranges)
unfolding opened in_turn counted list_after ranges
counts_of_K1_as_bytes = tt

pub months_in_ranges : T (all_hold (rows_printed twin_tables) ranges_of_months)
unfolding opened in_turn counted list_after twin_tables ranges_of_months
months_in_ranges = tt

pub months_in_ranges_as_bytes : T (all_hold (spelled (bytes_printed twin_tables)) ranges_of_months)
unfolding opened in_turn counted list_after twin_tables ranges_of_months
months_in_ranges_as_bytes = tt
