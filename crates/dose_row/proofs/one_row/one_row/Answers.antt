-- What is asked of the rows of the category is what passes all that is settled. Assumes nothing.
use borrow.Author.Rules.{rules}
use mathlib.Core.Path.{sym, ◌∙◌, ap, fun_ext}
use mathlib.Core.Bool.{and-true}
use Rattle.guideline.specs.declared.refusals.Ending.TheVariants.{RowsSeveral}
use Rattle.guideline.specs.declared.rows.Row643.{Row643}
use Rattle.guideline.specs.Ask.{run}
use Rattle.guideline.specs.Forms.{one}
use Rattle.guideline.specs.Results.{answered}
use Rattle.guideline.specs.Steps.{one_row}
use Rattle.guideline.specs.Table.{Hits}
use Rattle.keys.specs.Rows.{key_rows}
use Rattle.sieve.specs.Left.{kept_in}
use Rattle.sieve.specs.Settled.{settled643}
use Rattle.dose_row.proofs.one_row.one_row.Goals as goal

pub returns : goal.returns
unfolding one_row kept_in
returns c =
    let rows = c.args.left.now.rows in
    let p = settled643 c.args.left.now.settled in
    λ d.
    c.one.ensures (key_rows rows p) (c.ask.ensures p (λ row b post. search rules)) d
    ∙ ap (λ (h : Hits Row643). answered (run d (one h RowsSeveral RowsSeveral))) (ap (key_rows rows) (fun_ext (λ r. sym (and-true (p r)))))
