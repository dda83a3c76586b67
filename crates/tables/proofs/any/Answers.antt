-- Where the first such row stands, there is one. Assumes nothing.
use mathlib.Core.Path.{◌∙◌}
use Rattle.tables.proofs.Asked.{any_first}
use Rattle.tables.proofs.any.Goals as goal

pub returns : goal.returns
returns g c p tests = c.is_some.ensures ∙ any_first c.args.rows.now p c.first.result (c.first.ensures p tests)
