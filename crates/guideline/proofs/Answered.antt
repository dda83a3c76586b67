-- What the answer of a step in code tells of the step's outcome, and how a chain of steps goes on from it: a `?` in the code is one of the two last. Assumes nothing.
use mathlib.Core.Path.{◌≡◌, refl}
use Rattle.std.specs.Prelude.{Result, Ok, Err}
use Rattle.guideline.specs.Types.{Datum, Value, Refusal}
use Rattle.guideline.specs.Ask.{Step, ◌>>=◌, Outcome, Chosen, Refused, run}
use Rattle.guideline.specs.Results.{answered}
use Rattle.guideline.proofs.Run.{told, refused_here, chosen_then}

abbrev outcome_of : {A : Type 0} → Result A Refusal → Outcome (Unit {0}) A
outcome_of (Ok a) = Chosen a
outcome_of (Err why) = Refused why tt

-- the answer r is k, so the outcome is k's
told_answered : {A : Type 0} (o : Outcome (Unit {0}) A) {r k : Result A Refusal} → r ≡ answered o → r ≡ k → o ≡ outcome_of k
told_answered {A} = told answered outcome_of back
  where
    back : (o : Outcome (Unit {0}) A) → o ≡ outcome_of (answered o)
    back (Chosen a) = refl
    back (Refused why tt) = refl

pub chosen_of : {A : Type 0} (o : Outcome (Unit {0}) A) {r : Result A Refusal} {a : A} → r ≡ answered o → r ≡ Ok a → o ≡ Chosen a
chosen_of o h e = told_answered o h e

pub refused_of : {A : Type 0} (o : Outcome (Unit {0}) A) {r : Result A Refusal} {why : Refusal} → r ≡ answered o → r ≡ Err why → o ≡ Refused why tt
refused_of o h e = told_answered o h e

-- a step p, and then next: p's answer r ends it, or goes on with what it chose
module _ {A B : Type 0} (d : Datum → Value) (p : Step A) (next : A → Step B) {r : Result A Refusal} (h : r ≡ answered (run d p)) where
  pub ends_here : {why : Refusal} → r ≡ Err why → Err why ≡ answered (run d (p >>= next))
  ends_here e = refused_here answered d p next (refused_of (run d p) h e)

  pub goes_on : {a : A} → r ≡ Ok a → answered (run d (next a)) ≡ answered (run d (p >>= next))
  goes_on e = chosen_then answered d p next (chosen_of (run d p) h e)
