-- The lines of a case: for each entry, in their order, that of the check's answer, or those of the range check's.
use Rattle.std.specs.Prelude.{ℕ, ◌+◌, ◌*◌, ◌-◌, ◌≤◌, ◌<◌, cond, ◌≡◌, List, [], ◌∷◌, Option, None, Some, Result, leb, length}
use Rattle.decimals.specs.Put.{Put}
use Rattle.guideline.specs.Types.{Counted}
use Rattle.guideline.specs.Types.{AllCounts, RangeRefused as Refused}
use Rattle.guideline.specs.declared.entries.Entry.{Entry}
use Rattle.guideline.specs.declared.refusals.Refusal.{Refusal}
use Rattle.keys.specs.declared.seen.AllSeen.{AllSeen}
use Rattle.guideline.specs.Bytes.{Lents, spelled}
use Rattle.guideline.specs.Rows.{Tables}
use Rattle.guideline.specs.Check.{answer_length, numbers_of, check}
use Rattle.guideline.specs.Counts.{in_turn, answer_for, most_counts, counted, refusal_number}
use Rattle.ranges.specs.Soundly.{soundness}
use Rattle.stream.specs.Cases.{tables_of, entry_of, wanted_of, entry_count, Whole}
use Rattle.stream.specs.Lines.{line, longest_line}
use Rattle.stream.specs.declared.cases.Form.{Form}
use Rattle.stream.specs.declared.cases.Form.TheVariants.{Single, Range}
use Rattle.stream.specs.declared.cases.Wanted.{Wanted}
use Rattle.case_lines.specs.declared.Progress.{Progress}

-- what an entry gets from the single check
unfoldable pub answer_line : Tables → Entry → List ℕ
answer_line t e = line (numbers_of (check t e))

-- and from the range check, f i the numbers of answer i: "it prints `131` or `132`, or one line for each answer"
abbrev pub counted_lines : (ℕ → List ℕ) → Counted → List ℕ
counted_lines f (AllCounts n) = in_turn (λ i. line (f i)) n
counted_lines f (Refused why) = line (refusal_number why ∷ [])

unfoldable pub range_lines : Tables → Entry → Wanted → List ℕ
range_lines t e w = counted_lines (λ i. answer_for t e (w.first + i)) (counted w.first w.last w.places)

-- what entry i of a case gets
unfoldable pub lines_of : Form → List ℕ → ℕ → List ℕ
lines_of Single b i = answer_line (spelled (tables_of b)) (entry_of Single b i)
lines_of Range b i = range_lines (spelled (tables_of b)) (entry_of Range b i) (wanted_of b i)

-- what n entries get, from entry i on
abbrev pub lines_from : Form → List ℕ → ℕ → ℕ → List ℕ
lines_from f b i n = in_turn (λ k. lines_of f b (i + k)) n

abbrev pub all_lines : Form → List ℕ → List ℕ
all_lines f b = lines_from f b 0 (entry_count b)

-- room for what any entry gets
abbrev pub longest_range : ℕ
longest_range = most_counts * longest_line

abbrev pub longest_text : Form → ℕ
longest_text Single = longest_line
longest_text Range = longest_range

-- at most 16 answers, all inside a list of so many numbers
abbrev pub InList : Counted → ℕ → Type 0
InList (AllCounts n) long = (n ≤ most_counts) × (n * answer_length ≤ long)
InList (Refused why) long = Unit {0}

-- what was tested of the tables
abbrev pub Fitting : Option (Result AllSeen Refusal) → Lents → Type 0
Fitting None t = Unit {0}
Fitting (Some s) t = s ≡ soundness t

unfoldable pub test_of : List ℕ → Option (Result AllSeen Refusal)
test_of b = cond (leb (entry_count b) 1) None (Some (soundness (tables_of b)))

-- the entry to go on with, where one is left; else the one behind the last
abbrev pub next_of : List ℕ → Option ℕ → ℕ
next_of b None = entry_count b
next_of b (Some i) = i

-- a whole case, what was tested of its tables, the entry to go on with, and a place in a buffer
pub record Ready (f : Form) (b : List ℕ) (tested : Option (Result AllSeen Refusal)) (from room at : ℕ) : Type 0 where
  pub whole : Whole f b
  pub fitting : Fitting tested (tables_of b)
  pub entry : from ≤ entry_count b
  pub place : at ≤ room

-- The lines from those of entry `from` on stand at the place, and no other byte changes. Where an entry is left, there is no room for what any gets.
pub record Answered (f : Form) (b : List ℕ) (from : ℕ) (old : List ℕ) (at : ℕ) (new : List ℕ) (r : Progress) : Type 0 where
  pub onward : from ≤ next_of b r.next
  pub inside : next_of b r.next ≤ entry_count b
  pub text : Put old at (lines_from f b from (next_of b r.next - from)) new r.end
  pub fits : r.end ≤ length new
  pub left : (i : ℕ) → r.next ≡ Some i → (i < entry_count b) × (length new < r.end + longest_text f)
