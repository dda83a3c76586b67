use mathlib.Core.Path.{◌∙◌}
use Rattle.records.proofs.Chars.{same_part}
use Rattle.records.proofs.parts.is_text.Goals as goal

pub returns : goal.returns
returns c = c.eq.ensures ∙ same_part c.args.text.now c.args.s.now c.args.at
