-- 3.4.2.1 by measure: what is settled then, or the question.
use Rattle.std.specs.Prelude.{Result, Ok, Err}
use Rattle.guideline.specs.Types.{Value, Blank, Given}
use Rattle.guideline.specs.declared.refusals.Question.{Question}
use Rattle.filter.specs.declared.Measure.{Measure}
use Rattle.sieve.specs.declared.settled.Settled.{Settled}
use Rattle.sieve.specs.Settled.{and_measure}

abbrev pub fitted : Settled → Measure → Result Value Question → Result Settled Question
fitted s m (Ok Blank) = Ok s
fitted s m (Ok (Given x)) = Ok (and_measure s m x)
fitted s m (Err question) = Err question
