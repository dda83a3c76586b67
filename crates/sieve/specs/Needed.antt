-- What a measure has to fit.
use Rattle.std.specs.Prelude.{Bool, true, false, Result, Ok, Err}
use Rattle.guideline.specs.declared.refusals.Question.{Question}
use Rattle.guideline.specs.Types.{Value, Blank, Given}

-- nothing where it does not matter; a blank one that does is asked for
abbrev pub needed : Question → Bool → Value → Result Value Question
needed question false x = Ok Blank
needed question true Blank = Err question
needed question true (Given x) = Ok (Given x)
