-- P3: in the check months that are not given are off, all numbers; in a range they are on. Assumes nothing.
use Prim.Native.Nat.{ℕ}
use mathlib.Core.Bool.{Bool, cond}
use mathlib.Core.List.{List}
use mathlib.Core.Path.{◌≡◌, refl, ap₂}
use Rattle.guideline.specs.Types.{NotGiven, Position, Entry, Ending, Ends, Reached, Counted, AllCounts, RangeRefused}
use Rattle.guideline.specs.Values.{off, on}
use Rattle.guideline.specs.Rows.{Tables}
use Rattle.guideline.specs.Ask.{Outcome, Refused}
use Rattle.guideline.specs.Entries.{in_range, with_months}
use Rattle.guideline.specs.Steps.{Verdict, nothing}
use Rattle.guideline.specs.Check.{up_to_step_2, from_step_2, outcome, check}
use Rattle.guideline.specs.Counts.{places_in, single, answer_for, counted, listing, list_after}
use Rattle.guideline.proofs.Opened.{opened}
use Rattle.guideline.proofs.InEdition.{same_check}
use Rattle.guideline.proofs.BeforeStep2.{after_alike, Treated, alike}

module _ (t : Tables) (e : Entry) where
  -- steps 2 to 12 of two entries
  abbrev Same : Entry → Entry → Type 0
  Same f f' = from_step_2 t f' ≡ from_step_2 t f

  -- table 70 looks at no setting
  treated : Treated t Same (with_months (Position off) e) (with_months NotGiven e)
  unfolding opened
  treated = record { hpk = refl; as_they_are = refl; agree = λ r o. refl; as_filled = λ r o a. refl }

  same_range : in_range (with_months NotGiven e) ≡ in_range (with_months (Position off) e)
  unfolding opened
  same_range = refl

  -- the outcome, and so its place in document 01's order
  pub not_given_is_off : outcome t (with_months NotGiven e) ≡ outcome t (with_months (Position off) e)
  unfolding outcome
  not_given_is_off =
      ap₂ (λ (s : Bool) (o : Outcome Reached Verdict). cond s o (Refused (Ends Ending.EntryOutOfRange) nothing)) same_range
      (after_alike Same (from_step_2 t) (from_step_2 t) (λ f f' h. h) (up_to_step_2 t (with_months (Position off) e)) (up_to_step_2 t (with_months NotGiven e)) (alike t Same _ _ treated))

  pub check_not_given_is_off : check t (with_months NotGiven e) ≡ check t (with_months (Position off) e)
  check_not_given_is_off = same_check t (with_months (Position off) e) (with_months NotGiven e) refl not_given_is_off

  -- "each of its answers equals the single check with on"
  pub range_answers_with_on : (count : ℕ) → answer_for t (with_months NotGiven e) count ≡ single t (with_months (Position on) e) count
  range_answers_with_on count = refl

  -- a setting that is given stands
  pub range_answers_as_given : (count position : ℕ) → answer_for t (with_months (Position position) e) count ≡ single t (with_months (Position position) e) count
  range_answers_as_given count position = refl

  same_listing : (first : ℕ) (r : Counted) (list : List ℕ) → listing t (with_months NotGiven e) first r list ≡ listing t (with_months (Position on) e) first r list
  same_listing first (AllCounts n) list = refl
  same_listing first (RangeRefused why) list = refl

  pub range_not_given_is_on : (first last : ℕ) (list : List ℕ) → list_after t (with_months NotGiven e) first last list ≡ list_after t (with_months (Position on) e) first last list
  unfolding list_after
  range_not_given_is_on first last list = same_listing first (counted first last (places_in list)) list
