-- The rows of the key in the table are those that have it. Assumes nothing.
use borrow.Author.Rules.{rules}
use mathlib.Core.Path.{◌∙◌, ap, fun_ext}
use mathlib.Core.Bool.{and-true}
use Rattle.guideline.specs.Table.{Table, every}
use Rattle.keys.specs.Rows.{lent_rows}
use Rattle.tables.specs.Found.{found}
use Rattle.tables.proofs.look_up.Goals as goal

pub returns : goal.returns
returns g c =
    c.ask.ensures every (λ row b post. search rules)
    ∙ ap (λ (t : Table _). found (t every)) c.of_key.ensures.rows
    ∙ ap (λ p. found (lent_rows c.args.t.now p)) (fun_ext (λ row. and-true (g.R.TableRow.keyed c.args.key row)))
