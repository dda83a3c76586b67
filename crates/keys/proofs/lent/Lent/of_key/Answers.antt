-- The stretch of the key fits as the table does, and answers as it does. Assumes nothing.
use mathlib.Core.Path.{◌∙◌, ap}
use Rattle.guideline.specs.declared.view.View.{View}
use Rattle.guideline.specs.Table.{among}
use Rattle.cells.specs.Lents.{shown_by}
use Rattle.std.proofs.Common.{◌+◌, ◌≤◌, arith}
use Rattle.cells.proofs.Views.{fits_less, rows_fit}
use Rattle.keys.specs.declared.seen.Seen.{Seen}
use Rattle.keys.proofs.Answers.{stretch_fits, stretch_among}
use Rattle.keys.proofs.lent.Lent.of_key.Goals as goal

pub find-view-requires : goal.find-view-requires
find-view-requires g c =
    let inside : c.KEY.result + 1 ≤ g.R.TableRow.WIDTH = omega (arith, g.met.R.TableRow.key_inside) in (
      rw c.every_row-all.ensures (fits_less _ inside (rows_fit _ _)),
      rw (c.every_row-all.ensures, c.KEY.ensures) (ap (λ (s : Seen). s.rising) c.args.self.now.sees.same),
    )

pub invariant_of-result : goal.invariant_of-result
invariant_of-result g c =
    record { fits = stretch_fits c.find-view.ensures (rw c.every_row-all.ensures (rows_fit _ _)) }

pub returns-clause-rows : goal.returns-clause-rows
returns-clause-rows g c =
    let r = g.R.TableRow in
    let a = c.args in
    stretch_among c.find-view.ensures r (λ f. rw c.KEY.ensures (g.met.R.TableRow.keyed_read a.key f))
    ∙ ap (λ (v : View). among (r.keyed a.key) (shown_by r.read a.self.now.bytes.now v)) c.every_row-all.ensures
