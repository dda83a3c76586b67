-- The list after the call, where the range is refused and where it is not. Assumes nothing.
use Prim.Native.Nat.{ℕ, ◌*◌}
use mathlib.Core.List.{List, ◌++◌}
use mathlib.Core.Path.{◌≡◌, refl}
use lib.ListN.{drop}
use Rattle.guideline.specs.Types.{AllCounts, RangeRefused as Refused}
use Rattle.guideline.specs.declared.counted.RangeRefusal.{RangeRefusal}
use Rattle.guideline.specs.declared.entries.Entry.{Entry}
use Rattle.guideline.specs.Rows.{Tables}
use Rattle.guideline.specs.Check.{answer_length}
use Rattle.guideline.specs.Counts.{answers_from, places_in, counted, list_after}

module _ (t : Tables) (e : Entry) (first last : ℕ) (list : List ℕ) where
  pub refused_list : (why : RangeRefusal) → counted first last (places_in list) ≡ Refused why → list_after t e first last list ≡ list
  unfolding list_after
  refused_list why h = rw h refl

  pub answers_list : (n : ℕ) → counted first last (places_in list) ≡ AllCounts n → list_after t e first last list ≡ answers_from t e first n ++ drop (n * answer_length) list
  unfolding list_after
  answers_list n h = rw h refl
