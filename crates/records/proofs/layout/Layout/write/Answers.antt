-- 205, then 206, then the record at its place.
use mathlib.Core.Path.{sym, ◌∙◌}
use Rattle.records.proofs.Steps.{too_wide, no_room, done}
use Rattle.records.proofs.layout.Layout.write.Goals as goal

pub returns-then-not-fits : goal.returns-then-not-fits
returns-then-not-fits g c = let t = too_wide _ _ _ _ (sym c.if-not-fits.ensures) in record { answer = t.0; bytes = t.1 }

pub returns-then-not-has_room : goal.returns-then-not-has_room
returns-then-not-has_room g c =
    let n = no_room _ _ c.args.at c.args.buf.now (sym c.if-not-fits.ensures) (rw c.total.ensures at (sym c.if-not-has_room.ensures)) in
    record { answer = n.0; bytes = n.1 }

pub returns : goal.returns
returns g c =
    let d = done _ _ c.args.at c.args.buf.now (sym c.if-not-fits.ensures) (rw c.total.ensures at (sym c.if-not-has_room.ensures)) in
    record { answer = d.0; bytes = c.put.ensures ∙ d.1 }
