-- What the rule of a row says: does it allow more than the entered dose, where it does not keep the signal?
use Rattle.std.specs.Prelude.{Bool, true, false, Option, None, Some}

abbrev pub judged : Bool → Bool → Option Bool
judged true allows = None
judged false allows = Some allows
