-- The test is both. Assumes nothing.
use borrow.Author.Rules.{rules}
use mathlib.Core.Bool.{◌&&◌}
use Rattle.guideline.specs.declared.rows.Row643.{Row643}
use Rattle.filter.specs.Filters.{filter643}
use Rattle.sieve.specs.Settled.{settled643}
use Rattle.sieve.proofs.settled.Settled.first.Goals as goal

pub returns : goal.returns
returns c =
    let a = c.args in
    let p : Row643 → _ = λ r. settled643 a.self.now r && filter643 a.filter r in
    c.first.ensures p (λ row b post. search rules)
