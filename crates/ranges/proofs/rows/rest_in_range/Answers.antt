-- The loop has found no row out of range among those that it has passed. Assumes nothing.
use mathlib.Core.Path.{sym, ◌∙◌}
use native.Mathlib.Omega.{arith}
use Rattle.ranges.proofs.RowByRow.{found_unsound, all_sound, one_tested}
use Rattle.ranges.proofs.rows.rest_in_range.Goals as goal

pub returns-then-not-in_range : goal.returns-then-not-in_range
returns-then-not-in_range g c =
    let a = c.args in
    sym (found_unsound g.R.Ranged.sound g.R.TableRow.read a.t.now a.v c.loop-i.i (omega arith) (rw (← c.row.ensures) (sym c.in_range.ensures ∙ c.if-not-in_range.true)))

pub loop-i-preserved : goal.loop-i-preserved
loop-i-preserved g c =
    let a = c.args in
    one_tested g.R.Ranged.sound g.R.TableRow.read a.t.now a.v c.loop-i.invariant (omega arith) (rw (← c.row.ensures) (sym c.in_range.ensures ∙ c.if-not-in_range.false))

pub returns : goal.returns
returns g c =
    let a = c.args in
    sym (all_sound g.R.Ranged.sound g.R.TableRow.read a.t.now a.v c.loop-i.invariant (omega arith))
