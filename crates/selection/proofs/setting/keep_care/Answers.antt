-- The care group that is kept is the definition's. Assumes nothing.
use mathlib.Core.Path.{sym, ◌∙◌}
use borrow.Author.Rules.{rules}
use borrow.Author.Tests.{eq-eqb, ne_eqb}
use Rattle.tables.specs.Tests.{by_care}
use Rattle.selection.specs.Kept.{care_kept}
use Rattle.selection.proofs.setting.keep_care.Goals as goal

pub returns-then-s-ne-INTENSIVE_CARE : goal.returns-then-s-ne-INTENSIVE_CARE
unfolding care_kept
returns-then-s-ne-INTENSIVE_CARE c = rw (ne_eqb _ _ c.if-s-ne-INTENSIVE_CARE.true)

pub returns-then-any : goal.returns-then-any
unfolding care_kept
returns-then-any c = rw (eq-eqb _ _ c.if-s-ne-INTENSIVE_CARE.false, sym (c.any.ensures (by_care c.args.s) (λ row b post. search rules)) ∙ c.if-any.true)

pub returns : goal.returns
unfolding care_kept
returns c =
    rw (eq-eqb _ _ c.if-s-ne-INTENSIVE_CARE.false, sym (c.any.ensures (by_care c.args.s) (λ row b post. search rules)) ∙ c.if-any.false) c.all_care.ensures
