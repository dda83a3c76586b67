-- The first row that passes tells that one does, and the rows before it are not kept. Assumes nothing.
use mathlib.Core.Path.{refl}
use Rattle.std.specs.Prelude.{None, Some}
use Rattle.filter.specs.Filters.{filter643}
use Rattle.sieve.proofs.Kept.{first_tells, narrowed_kept}
use Rattle.dose_row.proofs.narrow.narrow.Goals as goal

pub returns-in_default : goal.returns-in_default
returns-in_default c =
    (first_tells c.args.left.now (filter643 c.args.filter) None c.in_default.ensures, refl)

pub returns : goal.returns
returns c =
    let a = c.args in (
      first_tells a.left.now (filter643 a.filter) (Some c.in-Some.i) c.in-Some.ensures,
      refl,
      λ w joins. narrowed_kept a.left.now w a.filter joins (record { rows = c.rest-left.result; settled = w }) c.in-Some.ensures c.rest-left.ensures.0 c.rest-left.ensures.1 c.rest-left.ensures.2 refl,
    )
