-- What a step leaves.
use Rattle.std.specs.Prelude.{◌≡◌, true, false, ◌&&◌, Result, Ok, Err}
use Rattle.guideline.specs.declared.entries.Datum.{Datum}
use Rattle.guideline.specs.declared.refusals.Ending.{Ending}
use Rattle.guideline.specs.declared.refusals.Question.{Question}
use Rattle.guideline.specs.declared.refusals.Refusal.{Refusal}
use Rattle.guideline.specs.declared.refusals.Refusal.TheVariants.{Ends}
use Rattle.guideline.specs.declared.rows.Row643.{Row643}
use Rattle.guideline.specs.Types.{Value}
use Rattle.guideline.specs.Ask.{asks_for, Step, Chosen, Refused, run}
use Rattle.guideline.specs.Table.{Table, some, among}
use Rattle.filter.specs.declared.Filter.{Filter}
use Rattle.filter.specs.Filters.{filter643}
use Rattle.sieve.specs.declared.left.Left.{Left}
use Rattle.sieve.specs.declared.settled.Settled.{Settled}
use Rattle.sieve.specs.Settled.{settled643}
use Rattle.sieve.specs.Left.{kept_of, kept}

-- the plan chooses the rows that are left then, of which something holds that is settled; or it is refused
abbrev pub Leaves : (Datum → Value) → Step (Table Row643) → (Settled → Type 0) → Left → Result (Unit {0}) Refusal → Type 0
Leaves d p Settles w (Ok done) = Settles w.settled × (run d p ≡ Chosen (kept w))
Leaves d p Settles w (Err why) = run d p ≡ Refused why tt

-- whatever the data are; whatever the others are, where one is given or blank
abbrev pub Always : ((Datum → Value) → Type 0) → Type 0
Always P = (d : Datum → Value) → P d

abbrev pub Where : Question → Value → ((Datum → Value) → Type 0) → Type 0
Where question x P = (d : Datum → Value) → d (asks_for question) ≡ x → P d

-- what is settled stays; from the first row on that passes a filter, those that also pass what is settled with the filter are kept as they were; none is refused
abbrev pub Narrows : Left → Filter → Ending → Left → Result (Unit {0}) Refusal → Type 0
Narrows s q none u (Ok done) =
    (some (kept s (filter643 q)) ≡ true)
    × (u.settled ≡ s.settled)
    × ((w : Settled) → ((r : Row643) → settled643 w r ≡ (settled643 s.settled r && filter643 q r)) → kept_of u.rows w ≡ among (filter643 q) (kept s))
Narrows s q none u (Err why) = (some (kept s (filter643 q)) ≡ false) × (why ≡ Ends none)
