-- The outcome of the plan of 3.4.2 that an answer stands for: it refuses nothing, it only asks.
use Rattle.std.specs.Prelude.{Bool, Result, Ok, Err}
use Rattle.guideline.specs.declared.refusals.Question.{Question}
use Rattle.guideline.specs.declared.refusals.Refusal.TheVariants.{Asks}
use Rattle.guideline.specs.Ask.{Outcome, Chosen, Refused}

abbrev pub outcome : Result Bool Question → Outcome (Unit {0}) Bool
outcome (Ok suppressed) = Chosen suppressed
outcome (Err question) = Refused (Asks question) tt
