-- P2, "1 to 3 times a day": document 001, 3.4.1, checks 1, 2 and 3 per day each by itself. P3 says what a range takes for months that are not given.
use Rattle.std.specs.Prelude.{ℕ, zero, suc, ◌+◌, ◌*◌, ◌-◌, ◌/◌, cond, List, [], ◌++◌, ltb, length, take, drop}
use Rattle.guideline.specs.Types.{Entry, Counted, AllCounts, RangeRefused, RangeRefusal, NoRange, NoRoom}
use Rattle.guideline.specs.Values.{on, given_or}
use Rattle.guideline.specs.Entries.{with_count, with_months}
use Rattle.guideline.specs.Rows.{Tables}
use Rattle.guideline.specs.Check.{answer_length, numbers_of, check}

-- f 0, f 1, .. up to but not including f n, one behind the other
unfoldable pub in_turn : (ℕ → List ℕ) → ℕ → List ℕ
in_turn f zero = []
in_turn f (suc n) = in_turn f n ++ f n

-- "the single check for that count"; the entry's own count is not looked at
abbrev pub single : Tables → Entry → ℕ → List ℕ
single t e count = numbers_of (check t (with_count count e))

-- P3: "The range check of P2 says on where its entry gives no setting, so each of its answers equals the single check with on."
abbrev pub on_unless_given : Entry → Entry
on_unless_given e = with_months (given_or on e.rest.months) e

abbrev pub answer_for : Tables → Entry → ℕ → List ℕ
answer_for t e count = single t (on_unless_given e) count

-- "One answer per count, rising": n answers, from that of the first count on
abbrev pub answers_from : Tables → Entry → ℕ → ℕ → List ℕ
answers_from t e first n = in_turn (λ i. answer_for t e (first + i)) n

-- from the first count to the last; a true difference
abbrev pub counts_in : ℕ → ℕ → ℕ
counts_in first last = suc last - first

abbrev pub most_counts : ℕ
most_counts = 16

-- the places of a lent list; each holds the numbers of one answer, place i those from i * 9 on
abbrev pub places_in : List ℕ → ℕ
places_in list = length list / answer_length

abbrev pub numbers_at : ℕ → List ℕ → List ℕ
numbers_at i list = take answer_length (drop (i * answer_length) list)

-- "131 if the first count is above the last or the range has over 16 counts, then 132 if the list is too short; both come before 125"
unfoldable pub counted : ℕ → ℕ → ℕ → Counted
counted first last places =
    cond (ltb last first) (RangeRefused NoRange)
    (cond (ltb most_counts (counts_in first last)) (RangeRefused NoRange)
    (cond (ltb places (counts_in first last)) (RangeRefused NoRoom) (AllCounts (counts_in first last))))

abbrev pub refusal_number : RangeRefusal → ℕ
refusal_number NoRange = 131
refusal_number NoRoom = 132

-- "In a lent list, places beyond the last unchanged"; a refusal writes nothing
abbrev pub listing : Tables → Entry → ℕ → Counted → List ℕ → List ℕ
listing t e first (AllCounts n) list = answers_from t e first n ++ drop (n * answer_length) list
listing t e first (RangeRefused why) list = list

unfoldable pub list_after : Tables → Entry → ℕ → ℕ → List ℕ → List ℕ
list_after t e first last list = listing t e first (counted first last (places_in list)) list
