-- The loop has found no row out of range among those that it has passed, and their keys rise. Assumes nothing.
use mathlib.Core.Path.{◌≡◌, refl, sym, ◌∙◌}
use native.Mathlib.Omega.{arith}
use Rattle.keys.specs.Keys.{key_of}
use Rattle.keys.specs.Rising.{rises}
use Rattle.keys.proofs.RisingKeys.{before_more, rises_on, falls_here}
use Rattle.ranges.proofs.RowByRow.{found_unsound, all_sound, none_tested, one_tested, tested_out, tested_in}
use Rattle.ranges.proofs.rows.tested.Goals as goal

pub loop-i-init : goal.loop-i-init
unfolding rises
loop-i-init g c =
    let a = c.args in
    (none_tested g.R.Ranged.sound g.R.TableRow.read a.t.now a.v, refl, refl)

pub returns-then-not-in_range : goal.returns-then-not-in_range
returns-then-not-in_range g c =
    let a = c.args in
    tested_out _ _ _ _ g.R.TableRow.KEY (found_unsound g.R.Ranged.sound g.R.TableRow.read a.t.now a.v c.loop-i.i (omega arith) (rw (← c.row.ensures) (sym c.in_range.ensures ∙ c.if-not-in_range.true)))

pub after_a_fall-requires : goal.after_a_fall-requires
after_a_fall-requires g c =
    let a = c.args in
    let f = key_of a.t.now a.v g.R.TableRow.KEY in
    let i = c.loop-i.i in
    let k = c.loop-i.invariant in
    (c.requires, one_tested g.R.Ranged.sound g.R.TableRow.read a.t.now a.v k.0 (omega arith) (rw (← c.row.ensures) (sym c.in_range.ensures ∙ c.if-not-in_range.false)), falls_here f i (rw (← k.2, ← c.KEY.ensures, ← c.cell-key.ensures) c.if-key-last.true))

pub loop-i-preserved : goal.loop-i-preserved
loop-i-preserved g c =
    let a = c.args in
    let f = key_of a.t.now a.v g.R.TableRow.KEY in
    let i = c.loop-i.i in
    let k = c.loop-i.invariant in
    (one_tested g.R.Ranged.sound g.R.TableRow.read a.t.now a.v k.0 (omega arith) (rw (← c.row.ensures) (sym c.in_range.ensures ∙ c.if-not-in_range.false)), rises_on f i k.1 (rw (← k.2, ← c.KEY.ensures, ← c.cell-key.ensures) (omega arith)), rw (before_more f i, ← c.KEY.ensures) c.cell-key.ensures)

pub returns : goal.returns
returns g c =
    let a = c.args in
    let k = c.loop-i.invariant in
    let end : c.loop-i.i ≡ a.v.rows = omega (arith, k.0.0) in
    tested_in _ _ _ _ g.R.TableRow.KEY (all_sound g.R.Ranged.sound g.R.TableRow.read a.t.now a.v k.0 (omega arith)) (rw (← end) k.1)
