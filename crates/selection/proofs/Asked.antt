-- What `ok_or` answers for a datum tells of the datum. Assumes nothing.
use Rattle.std.specs.Prelude.{◌≡◌, ℕ, None, Some, Result, Ok, Err}
use Rattle.std.specs.Option.{ok_or}
use Rattle.guideline.specs.Types.{Value}
use Rattle.guideline.specs.declared.refusals.Refusal.{Refusal}

pub given_in : (v : Value) (why : Refusal) {r : Result ℕ Refusal} {n : ℕ} → r ≡ ok_or v why → r ≡ Ok n → v ≡ Some n
given_in None why h e = absurd (cc)
given_in (Some n) why h e = cc

pub blank_in : (v : Value) (why : Refusal) {w : Refusal} {r : Result ℕ Refusal} → r ≡ ok_or v why → r ≡ Err w → (v ≡ None) × (w ≡ why)
blank_in None why h e = (cc, cc)
blank_in (Some n) why h e = absurd (cc)
