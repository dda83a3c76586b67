-- The rows of the GPK are those that have it. Assumes nothing.
use mathlib.Core.Path.{◌∙◌, ap}
use Rattle.guideline.specs.declared.rows.Row641.{Row641}
use Rattle.guideline.specs.Ask.{run}
use Rattle.guideline.specs.Entries.{datum}
use Rattle.guideline.specs.Results.{answered}
use Rattle.guideline.specs.Steps.{level, by_hpk}
use Rattle.guideline.specs.Table.{Table}
use Rattle.selection.proofs.level.level.Goals as goal

pub returns : goal.returns
unfolding level
returns c =
    c.by_hpk.ensures ∙ ap (λ (t : Table Row641). answered (run (datum c.args.d) (by_hpk t))) c.of_key.ensures.rows
