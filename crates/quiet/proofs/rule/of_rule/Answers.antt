-- A rule with no or several rows bars; the one row says what its limits say. They are in range, since step 1 tested the table. Assumes nothing.
use Rattle.guideline.specs.declared.rows.TableName.TheVariants.{T649}
use Rattle.guideline.specs.Forms.{choose}
use Rattle.guideline.specs.Quiet.{limits_for, minimum_empty, allows_more}
use Rattle.guideline.specs.Bytes.{rows_of, seen}
use Rattle.guideline.specs.Rows.{keyed, sound_row}
use Rattle.guideline.proofs.Gives.{gives_table}
use Rattle.cells.specs.Lents.{shown_by}
use Rattle.units.proofs.Sound.{maximum_products}
use Rattle.keys.specs.Rows.{lent_rows}
use Rattle.tables.proofs.FoundTold.{found_told}
use Rattle.quiet.proofs.rule.of_rule.Goals as goal

pub of_limits-requires : goal.of_limits-requires
unfolding shown_by seen
of_limits-requires c =
    let a = c.args in
    let one = found_told (lent_rows a.t649.now (keyed T649 a.row.gpddnr)) c.look_up.ensures c.in-One.is in
    let sound = gives_table (sound_row T649) (rows_of T649 a.t649.now.bytes.now) c.requires.1.limits (keyed T649 a.row.gpddnr) c.in-One.m one in
    maximum_products a.p a.q c.in-One.m c.requires.0 c.requires.1.prescription sound

pub returns-in-Nothing : goal.returns-in-Nothing
unfolding minimum_empty allows_more limits_for choose
returns-in-Nothing c =
    let a = c.args in
    rw (found_told (lent_rows a.t649.now (keyed T649 a.row.gpddnr)) c.look_up.ensures c.in-Nothing.is)

pub returns-in-One : goal.returns-in-One
unfolding minimum_empty allows_more limits_for choose
returns-in-One c =
    let a = c.args in
    rw (found_told (lent_rows a.t649.now (keyed T649 a.row.gpddnr)) c.look_up.ensures c.in-One.is) c.of_limits.ensures

pub returns-in-Many : goal.returns-in-Many
unfolding minimum_empty allows_more limits_for choose
returns-in-Many c =
    let a = c.args in
    rw (found_told (lent_rows a.t649.now (keyed T649 a.row.gpddnr)) c.look_up.ensures c.in-Many.is)
