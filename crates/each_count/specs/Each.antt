-- What the range check promises of its result and of the lent list, as it was (old) and as it is after the call (new).
use Rattle.std.specs.Prelude.{ℕ, List, ◌≡◌}
use Rattle.guideline.specs.Types.{Counted}
use Rattle.guideline.specs.declared.entries.Entry.{Entry}
use Rattle.guideline.specs.Bytes.{Lents, spelled}
use Rattle.guideline.specs.Counts.{places_in, counted, list_after}

abbrev pub AnswersEach : Lents → Entry → ℕ → ℕ → List ℕ → List ℕ → Counted → Type 0
AnswersEach b e first last old new r = (r ≡ counted first last (places_in old)) × (new ≡ list_after (spelled b) e first last old)
