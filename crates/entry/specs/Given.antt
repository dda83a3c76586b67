-- A datum that is blank, or given within a range.
use Rattle.std.specs.Prelude.{Bool, true}
use Rattle.guideline.specs.Types.{Value}
use Rattle.guideline.specs.Types.{Blank, Given}
use Rattle.guideline.specs.declared.range.Range.{Range}
use Rattle.guideline.specs.Values.{within}

abbrev pub within_if_given : Range → Value → Bool
within_if_given r Blank = true
within_if_given r (Given n) = within r n
