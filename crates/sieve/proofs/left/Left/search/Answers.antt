-- The exact unit first, its twin second. Assumes nothing.
use Rattle.std.specs.Prelude.{None, Some}
use Rattle.filter.specs.declared.Filter.TheVariants.{Exact, Twin}
use Rattle.filter.specs.Filters.{filter643}
use Rattle.sieve.specs.Left.{kept}
use Rattle.sieve.proofs.Kept.{first_tells}
use Rattle.sieve.proofs.Frequencies.{kept_exact, kept_twin}
use Rattle.sieve.proofs.left.Left.search.Goals as goal

pub returns-in-Some : goal.returns-in-Some
returns-in-Some c =
    let a = c.args in
    (kept_exact a.f (kept a.self.now) (first_tells a.self.now (filter643 (Exact a.f)) (Some c.in-Some.i) c.in-Some.ensures), c.in-Some.ensures)

pub returns-in-Some-first : goal.returns-in-Some-first
returns-in-Some-first c =
    let a = c.args in
    (kept_twin a.f (kept a.self.now) (first_tells a.self.now (filter643 (Exact a.f)) None c.in_default.ensures), c.in-Some-first.ensures)

pub returns : goal.returns
returns c =
    let a = c.args in
    (first_tells a.self.now (filter643 (Exact a.f)) None c.in_default.ensures, first_tells a.self.now (filter643 (Twin a.f)) None c.in_default-first.ensures)
