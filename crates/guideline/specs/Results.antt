-- What the code answers for a plan: what it chose, or its refusal, with what is reached there or without.
use Rattle.std.specs.Prelude.{◌≡◌, Result, Ok, Err}
use Rattle.guideline.specs.Types.{Datum, Value, Refusal, Reached, Stopped}
use Rattle.guideline.specs.Ask.{Outcome, Chosen, Refused, Step, run}

-- of a step
abbrev pub answered : {A : Type 0} → Outcome (Unit {0}) A → Result A Refusal
answered (Chosen a) = Ok a
answered (Refused why g) = Err why

-- what a step that asks for nothing answers, whatever the data are
abbrev pub Chooses : {A : Type 0} → Step A → Result A Refusal → Type 0
Chooses p r = (d : Datum → Value) → r ≡ answered (run d p)

-- of a check that goes on
abbrev pub stopped_at : Reached → Refusal → Stopped
stopped_at g why = record { why = why; reached = g }

-- of a step, where g is reached
abbrev pub answered_at : {A : Type 0} → Reached → Result A Refusal → Result A Stopped
answered_at g (Ok a) = Ok a
answered_at g (Err why) = Err (stopped_at g why)

abbrev pub ended : {A : Type 0} → Outcome Reached A → Result A Stopped
ended (Chosen a) = Ok a
ended (Refused why g) = Err (stopped_at g why)
