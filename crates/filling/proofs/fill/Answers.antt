-- Without an HPK nothing is filled; with one it goes by its rows. Assumes nothing.
use mathlib.Core.Path.{◌∙◌}
use Rattle.filling.proofs.Comes.{without_hpk, with_hpk}
use Rattle.filling.proofs.fill.Goals as goal

pub returns-in_default : goal.returns-in_default
returns-in_default c d = without_hpk d _ c.args.e c.in_default.is

pub returns-in-Nothing : goal.returns-in-Nothing
returns-in-Nothing c d = with_hpk d _ c.args.e _ c.in-Some.is c.look_up.ensures c.in-Nothing.is

pub returns-in-One : goal.returns-in-One
returns-in-One c d = c.by_row.ensures ∙ with_hpk d _ c.args.e _ c.in-Some.is c.look_up.ensures c.in-One.is

pub returns-in-Many : goal.returns-in-Many
returns-in-Many c d = with_hpk d _ c.args.e _ c.in-Some.is c.look_up.ensures c.in-Many.is
