-- The five tests are those of the definition. Assumes nothing.
use borrow.Author.Rules.{rules}
use mathlib.Core.Bool.{and_assoc}
use Rattle.filter.specs.declared.Filter.TheVariants.{Age, FitsMeasure}
use Rattle.filter.specs.declared.Measure.TheVariants.{Weight, Surface}
use Rattle.sieve.specs.Settled.{settled643}
use Rattle.sieve.proofs.Valued.{by_value}
use Rattle.sieve.proofs.settled.Settled.passes.Goals as goal

pub returns : goal.returns
unfolding settled643
returns c =
    let a = c.args in
    let age = by_value Age a.r a.self.age c.is_none_or-by_age.ensures (λ n k. search rules) in
    let weight = by_value (FitsMeasure Weight) a.r a.self.weight c.is_none_or-by_weight.ensures (λ n k. search rules) in
    let surface = by_value (FitsMeasure Surface) a.r a.self.surface c.is_none_or-by_surface.ensures (λ n k. search rules) in
    rw (surface, weight, c.passes-by_frequency.ensures, age, and_assoc, and_assoc)
