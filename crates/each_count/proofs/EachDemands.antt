-- The demands, said of each place of the list that `each_count::check_each` leaves: each is what dosecheck's Demands says of the single check for that
-- count. A range's promise is that the list `AnswersEach`; each theorem here speaks of lists only. Assumes nothing.
use Prim.Native.Nat.{ℕ, ◌+◌, ◌*◌, ◌≤◌, ◌<◌}
use mathlib.Core.Bool.{true}
use mathlib.Core.List.{List, []}
use mathlib.Core.Path.{◌≡◌, refl, sym, ◌∙◌, ap, subst}
use lib.Dec.{T}
use lib.ListN.{get_or, drop}
use Rattle.guideline.specs.declared.answer.Answer.{Answer}
use Rattle.guideline.specs.Types.{Counted}
use Rattle.guideline.specs.Types.{AllCounts, RangeRefused as Refused}
use Rattle.guideline.specs.declared.counted.RangeRefusal.{RangeRefusal}
use Rattle.guideline.specs.Types.{Blank}
use Rattle.guideline.specs.Types.{NotGiven, Position}
use Rattle.guideline.specs.declared.entries.Entry.{Entry}
use Rattle.guideline.specs.declared.rows.TableName.TheVariants.{T070}
use Rattle.guideline.specs.declared.entries.Datum.{Datum}
use Rattle.guideline.specs.declared.entries.Datum.TheVariants.{Hpk}
use Rattle.guideline.specs.Bytes.{Lents, spelled}
use Rattle.guideline.specs.Values.{on, former, current}
use Rattle.guideline.specs.Entries.{datum, permitted, with_count, with_months, with_edition}
use Rattle.guideline.specs.Edition.{in_former}
use Rattle.guideline.specs.Check.{after_filling, answer_length, numbers_of, outcome, place_of, check}
use Rattle.guideline.specs.Counts.{on_unless_given, numbers_at}
use Rattle.guideline.specs.ProofTable.{proof_table, bytes_printed}
use Rattle.guideline.proofs.CountExamples.{ranges, ranges_of_months, all_hold, counts_of_K1_as_bytes, months_in_ranges_as_bytes}
use Rattle.guideline.proofs.CountLaws.{place_answered, rest_behind}
use Rattle.guideline.proofs.Months.{range_not_given_is_on}
use Rattle.guideline.proofs.TwinTraps.{twin_tables}
use Rattle.guideline.proofs.Fill.{fill, asking}
use Rattle.guideline.proofs.NoTable70.{check_without_70}
use Rattle.guideline.proofs.Same.{BlankAfterFilling}
use Rattle.guideline.proofs.Shuffle.{ReorderedBytes}
use Rattle.guideline.proofs.Shapes.{right, at_least_1}
use Rattle.guideline.proofs.Listed.{listed}
use Rattle.dosecheck.specs.Answers.{Answers}
use Rattle.dosecheck.proofs.Demands.{demand_1, demand_3_same, demand_3_later, without_table_70, two_editions, reordering}
use Rattle.each_count.specs.Each.{AnswersEach}
use Rattle.each_count.proofs.Lists.{refused_list, answers_list}

-- the answer's number at place i
abbrev pub answer_at : ℕ → List ℕ → ℕ
answer_at i list = get_or (numbers_at i list) 0 0

-- one of 101 to 106
abbrev Asks : ℕ → Type 0
Asks n = (101 ≤ n) × (n ≤ 106)

-- the entry of the place for a count
abbrev pub of_place : Entry → ℕ → Entry
of_place e count = with_count count (on_unless_given e)

module _ (b : Lents) (first last : ℕ) where
  -- the promise admits one result and one list only
  pub one_result : (e : Entry) (old : List ℕ) {new new' : List ℕ} {r r' : Counted} → AnswersEach b e first last old new r → AnswersEach b e first last old new' r' → (r ≡ r') × (new ≡ new')
  one_result e old p q = (p.0 ∙ sym q.0, p.1 ∙ sym q.1)

  -- a refusal leaves the list as it was, all of it
  pub refusal_leaves : (e : Entry) (old new : List ℕ) (why : RangeRefusal) → AnswersEach b e first last old new (Refused why) → new ≡ old
  refusal_leaves e old new why p = p.1 ∙ refused_list (spelled b) e first last old why (sym p.0)

  -- what stands behind the last answer is as it was
  pub rest_leaves : (e : Entry) (old new : List ℕ) (n : ℕ) → AnswersEach b e first last old new (AllCounts n) → drop (n * answer_length) new ≡ drop (n * answer_length) old
  rest_leaves e old new n p =
      ap (drop (n * answer_length)) (p.1 ∙ answers_list (spelled b) e first last old n (sym p.0)) ∙ rest_behind (spelled b) e first n (drop (n * answer_length) old)

  -- place i holds what the single check answers for count first + i, months on unless given, by the check's own promise
  pub place_answers : (e : Entry) (old new : List ℕ) (n i : ℕ) {a : Answer} → AnswersEach b e first last old new (AllCounts n) → i < n → Answers b (with_count (first + i) (on_unless_given e)) a → numbers_at i new ≡ numbers_of a
  place_answers e old new n i p h a =
      ap (numbers_at i) (p.1 ∙ answers_list (spelled b) e first last old n (sym p.0)) ∙ place_answered (spelled b) e first n i (drop (n * answer_length) old) h ∙ ap numbers_of (sym a)

  -- P3, "each of its answers equals the single check with on" where none is given; a setting that is given stands.
  pub place_with_on : (e : Entry) (old new : List ℕ) (n i : ℕ) {a : Answer} → AnswersEach b (with_months NotGiven e) first last old new (AllCounts n) → i < n → Answers b (with_count (first + i) (with_months (Position on) e)) a → numbers_at i new ≡ numbers_of a
  place_with_on e old new n i p h a = place_answers (with_months NotGiven e) old new n i p h a

  pub place_as_given : (e : Entry) (position : ℕ) (old new : List ℕ) (n i : ℕ) {a : Answer} → AnswersEach b (with_months (Position position) e) first last old new (AllCounts n) → i < n → Answers b (with_count (first + i) (with_months (Position position) e)) a → numbers_at i new ≡ numbers_of a
  place_as_given e position old new n i p h a = place_answers (with_months (Position position) e) old new n i p h a

  -- P3: a range with months not given is the range with months on, its result and its list.
  pub months_not_given_each : (e : Entry) (old : List ℕ) {new new' : List ℕ} {r r' : Counted} → AnswersEach b (with_months NotGiven e) first last old new r → AnswersEach b (with_months (Position on) e) first last old new' r' → (r ≡ r') × (new ≡ new')
  months_not_given_each e old p q = (p.0 ∙ sym q.0, p.1 ∙ range_not_given_is_on (spelled b) e first last old ∙ sym q.1)

  -- Demand 1: each place is one of document 01's list.
  pub demand_1_each : (e : Entry) (old new : List ℕ) (n i : ℕ) → AnswersEach b e first last old new (AllCounts n) → i < n → (a : Answer) × (numbers_at i new ≡ numbers_of a) × T (listed a) × T (right at_least_1 a)
  demand_1_each e old new n i p h =
      let d = demand_1 b (with_count (first + i) (on_unless_given e)) refl in
      (check (spelled b) (with_count (first + i) (on_unless_given e)), place_answers e old new n i p h refl, d.0, d.1)

  -- Demand 3, first half, for each place: an answer other than 101 to 106 stays the same, all its numbers, whatever blank of the place's entry after filling,
  -- age, sex, PRK, weight or surface, is filled.
  pub demand_3_same_each : (e : Entry) (q : Datum) (v : ℕ) (old new old' new' : List ℕ) (n n' i : ℕ) → AnswersEach b e first last old new (AllCounts n) → AnswersEach b (fill q v e) first last old' new' (AllCounts n') → i < n → i < n' → (Asks (answer_at i new) → ⊥) → BlankAfterFilling (spelled b) (of_place e (first + i)) q → permitted q v ≡ true → numbers_at i new' ≡ numbers_at i new
  unfolding fill
  demand_3_same_each e q v old new old' new' n n' i p p' h h' other blank allowed =
      let f = with_count (first + i) (on_unless_given e) in
      let here = place_answers e old new n i p h refl in
      let there = place_answers (fill q v e) old' new' n' i p' h' refl in
      there ∙ ap numbers_of (demand_3_same b f q v refl refl (λ x. other (subst Asks (sym (ap (λ l. get_or l 0 0) here)) x)) blank allowed) ∙ sym here

  -- Demand 3, second half, for each place: 101 to 106 names a datum that is blank in the place's entry after filling. Unless it is the HPK, filling it
  -- leads to an answer later in document 01's order.
  pub demand_3_later_each : (e : Entry) (old new : List ℕ) (n i : ℕ) → AnswersEach b e first last old new (AllCounts n) → i < n → Asks (answer_at i new) → (q : Datum) × (answer_at i new ≡ asking q) × (datum (after_filling (spelled b) (of_place e (first + i))).known q ≡ Blank) × ((q ≡ Hpk → ⊥) → (v : ℕ) → permitted q v ≡ true → place_of (outcome (spelled b) (of_place e (first + i))) < place_of (outcome (spelled b) (of_place (fill q v e) (first + i))))
  unfolding fill
  demand_3_later_each e old new n i p h asks =
      let number = ap (λ (l : List ℕ). get_or l 0 0) (place_answers e old new n i p h refl) in
      let m = demand_3_later b (with_count (first + i) (on_unless_given e)) refl (subst Asks number asks) in
      (m.0, number ∙ m.1, m.2.0, m.2.1)

  -- P5: with no byte of table 70 each place is what the check without it answers.
  pub without_table_70_each : (e : Entry) (old new : List ℕ) (n i : ℕ) → AnswersEach b e first last old new (AllCounts n) → i < n → b T070 ≡ [] → numbers_at i new ≡ numbers_of (check_without_70 (spelled b) (of_place e (first + i)))
  without_table_70_each e old new n i p h empty =
      place_answers e old new n i p h refl ∙ ap numbers_of (without_table_70 b (of_place e (first + i)) refl empty)

  -- P7: each place under edition 1 is what the check for its count answers under edition 2, with that one change.
  pub two_editions_each : (e : Entry) (old new : List ℕ) (n i : ℕ) {a : Answer} → AnswersEach b (with_edition former e) first last old new (AllCounts n) → i < n → Answers b (of_place (with_edition current e) (first + i)) a → numbers_at i new ≡ numbers_of (in_former a)
  two_editions_each e old new n i p h a =
      place_answers (with_edition former e) old new n i p h refl ∙ ap numbers_of (two_editions b (of_place e (first + i)) refl a)

-- Reordering the rows of a lent table changes no place.
pub reordering_each : (b c : Lents) (first last : ℕ) (e : Entry) (old new old' new' : List ℕ) (n n' i : ℕ) → AnswersEach b e first last old new (AllCounts n) → AnswersEach c e first last old' new' (AllCounts n') → i < n → i < n' → ReorderedBytes b c → numbers_at i new ≡ numbers_at i new'
reordering_each b c first last e old new old' new' n n' i p p' h h' k =
    place_answers b first last e old new n i p h refl ∙ ap numbers_of (reordering b c (with_count (first + i) (on_unless_given e)) refl refl k) ∙ sym (place_answers c first last e old' new' n' i p' h' refl)

-- Demand 2 is the promise itself; on K1 of document 01's proof table, and on the twins of weeks and months, it gives the ranges of the lists.
pub demand_2_each : T (all_hold (spelled (bytes_printed proof_table)) ranges) × T (all_hold (spelled (bytes_printed twin_tables)) ranges_of_months)
demand_2_each = (counts_of_K1_as_bytes, months_in_ranges_as_bytes)
