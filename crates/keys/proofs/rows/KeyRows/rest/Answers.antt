-- Rows that fit, from one on, fit. Assumes nothing.
use native.Mathlib.Omega.{arith}
use Rattle.cells.proofs.Views.{narrowed_fits}
use Rattle.keys.proofs.rows.KeyRows.rest.Goals as goal

pub invariant_of-result : goal.invariant_of-result
invariant_of-result g c =
    let a = c.args in
    record { fits = rw c.narrow-view.ensures (narrowed_fits a.from a.self.now.view.rows (omega arith) (omega arith) a.self.now.fits) }
