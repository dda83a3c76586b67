-- What the range check leaves in the list, and its lines. Assumes nothing.
use Prim.Native.Nat.{ℕ, ◌+◌, ◌*◌}
use mathlib.Core.List.{List}
use mathlib.Core.Path.{◌≡◌, refl, sym, ap, ◌∙◌}
use native.Mathlib.Omega.{arith}
use lib.ListN.{length}
use Rattle.guideline.specs.Types.{Counted}
use Rattle.guideline.specs.Types.{AllCounts, RangeRefused as Refused}
use Rattle.guideline.specs.declared.entries.Entry.{Entry}
use Rattle.guideline.specs.Bytes.{Lents, spelled}
use Rattle.guideline.specs.Check.{answer_length}
use Rattle.guideline.specs.Counts.{answer_for, counted, numbers_at, places_in}
use Rattle.guideline.proofs.CountLaws.{listed_fits}
use Rattle.each_count.specs.Each.{AnswersEach}
use Rattle.each_count.proofs.EachDemands.{place_answers}
use Rattle.stream.specs.Lines.{line}
use Rattle.stream.specs.declared.cases.Wanted.{Wanted}
use Rattle.case_lines.specs.Lines.{InList, counted_lines, range_lines}
use Rattle.case_lines.proofs.Turns.{same_in_turn}

module _ (b : Lents) (e : Entry) (w : Wanted) (old new : List ℕ) (long : length old ≡ w.places * answer_length) where
  places_wanted : places_in old ≡ w.places
  places_wanted = rw long (omega arith)

  pub answers_in_list : (r : Counted) → AnswersEach b e w.first w.last old new r → length new ≡ length old → InList r (length new)
  answers_in_list (AllCounts n) p l =
      let f = listed_fits w.first w.last (places_in old) n (sym p.0) in
      (f.1, omega (arith, f.2, places_wanted, long))
  answers_in_list (Refused why) p l = tt

  -- the numbers of answer i
  abbrev answer : ℕ → List ℕ
  answer i = answer_for (spelled b) e (w.first + i)

  same_lines : (r : Counted) → AnswersEach b e w.first w.last old new r → counted_lines (λ i. numbers_at i new) r ≡ counted_lines answer r
  same_lines (AllCounts n) p = same_in_turn (λ i. line (numbers_at i new)) (λ i. line (answer i)) n (λ i h. ap line (place_answers b w.first w.last e old new n i p h refl))
  same_lines (Refused why) p = refl

  pub lines_answered : (r : Counted) → AnswersEach b e w.first w.last old new r → counted_lines (λ i. numbers_at i new) r ≡ range_lines (spelled b) e w
  unfolding range_lines
  lines_answered r p = same_lines r p ∙ ap (counted_lines answer) (p.0 ∙ ap (counted w.first w.last) places_wanted)
