-- The entered route is asked for first, then route 0. Assumes nothing.
use mathlib.Core.Path.{◌≡◌, refl, ◌∙◌}
use mathlib.Core.Bool.{true}
use borrow.Author.Rules.{rules}
use Rattle.guideline.specs.declared.rows.Row642.{Row642}
use Rattle.guideline.specs.Table.{Hits, None, One, Many, some}
use Rattle.keys.specs.Rows.{key_rows}
use Rattle.tables.specs.Found.{found}
use Rattle.tables.specs.Tests.{by_route}
use Rattle.tables.specs.declared.found.Found.TheVariants.{Nothing}
use Rattle.tables.proofs.FoundTold.{found_told}
use Rattle.selection.specs.Kept.{route_kept}
use Rattle.selection.proofs.setting.keep_route.Goals as goal

-- what is not nothing has rows
not_none : (h : Hits Row642) → (found h ≡ Nothing → ⊥) → some h ≡ true
not_none None given = absurd (given refl)
not_none (One r) given = refl
not_none (Many n) given = refl

pub returns-in-Nothing : goal.returns-in-Nothing
unfolding route_kept
returns-in-Nothing c =
    let none = c.ask.ensures (by_route c.args.s) (λ row b post. search rules) in
    let free = c.ask-in-Nothing.ensures (by_route c.no_route-free.result) (λ row b post. search rules) in
    rw (found_told (key_rows c.args.rows.now (by_route c.args.s)) none c.in-Nothing.is) (rw c.no_route-free.ensures at free)

pub returns-in_default : goal.returns-in_default
unfolding route_kept
returns-in_default c =
    let found = c.ask.ensures (by_route c.args.s) (λ row b post. search rules) in
    rw (not_none (key_rows c.args.rows.now (by_route c.args.s)) (λ e. c.in_default.not-Nothing (found ∙ e))) found
