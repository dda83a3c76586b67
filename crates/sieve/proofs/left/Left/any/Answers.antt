-- Where the first such row stands, there is one. Assumes nothing.
use mathlib.Core.Path.{sym, ◌∙◌}
use Rattle.filter.specs.Filters.{filter643}
use Rattle.sieve.proofs.Kept.{first_tells}
use Rattle.sieve.proofs.left.Left.any.Goals as goal

pub returns : goal.returns
returns c =
    c.is_some.ensures
    ∙ sym (first_tells c.args.self.now (filter643 c.args.filter) c.first.result c.first.ensures)
