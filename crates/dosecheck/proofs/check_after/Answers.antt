-- The answer to the outcome, in the entry's edition. Assumes nothing.
use mathlib.Core.Path.{◌∙◌, ap}
use Rattle.guideline.specs.Edition.{in_edition}
use Rattle.guideline.specs.Check.{check}
use Rattle.dosecheck.specs.Lines.{answer_to}
use Rattle.dosecheck.proofs.OutcomeLaws.{answer_ended}
use Rattle.dosecheck.proofs.check_after.Goals as goal

pub returns : goal.returns
unfolding check
returns c =
    c.in_edition.ensures
    ∙ ap (in_edition c.args.e.rest.edition) (c.answer.ensures ∙ ap answer_to c.outcome.ensures ∙ answer_ended _)
