-- Keys that fell once do not rise. Assumes nothing.
use mathlib.Core.Path.{sym, ◌∙◌}
use Rattle.keys.proofs.RisingKeys.{fall_stays}
use Rattle.ranges.proofs.RowByRow.{tested_out, tested_in}
use Rattle.ranges.proofs.rows.after_a_fall.Goals as goal

pub returns-then-rest_in_range : goal.returns-then-rest_in_range
returns-then-rest_in_range g c =
    let a = c.args in
    tested_in _ _ _ _ g.R.TableRow.KEY (sym c.rest_in_range.ensures ∙ c.if-rest_in_range.true) (fall_stays _ a.from a.v.rows c.requires.1.0 c.requires.2)

pub returns : goal.returns
returns g c = tested_out _ _ _ _ g.R.TableRow.KEY (sym c.rest_in_range.ensures ∙ c.if-rest_in_range.false)
