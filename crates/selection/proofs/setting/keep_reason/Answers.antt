-- The reason that is kept is the definition's. Assumes nothing.
use mathlib.Core.Path.{sym, ◌∙◌}
use borrow.Author.Rules.{rules}
use borrow.Author.Tests.{eq-eqb, ne_eqb}
use Rattle.tables.specs.Tests.{by_reason}
use Rattle.selection.specs.Kept.{reason_kept}
use Rattle.selection.proofs.setting.keep_reason.Goals as goal

pub returns-then-s-eq-NO_REASON : goal.returns-then-s-eq-NO_REASON
unfolding reason_kept
returns-then-s-eq-NO_REASON c = rw (eq-eqb _ _ c.if-s-eq-NO_REASON.true) c.q_general.ensures

pub returns-then-any : goal.returns-then-any
unfolding reason_kept
returns-then-any c = rw (ne_eqb _ _ c.if-s-eq-NO_REASON.false, sym (c.any.ensures (by_reason c.args.s) (λ row b post. search rules)) ∙ c.if-any.true)

pub returns-then-any-2 : goal.returns-then-any-2
unfolding reason_kept
returns-then-any-2 c =
    let asked = rw c.whole_reason-whole.ensures at (sym (c.any-2.ensures (by_reason c.whole_reason-whole.result) (λ row b post. search rules)) ∙ c.if-any-2.true) in
    rw (ne_eqb _ _ c.if-s-eq-NO_REASON.false, sym (c.any.ensures (by_reason c.args.s) (λ row b post. search rules)) ∙ c.if-any.false, asked) c.whole_reason-whole.ensures

pub returns : goal.returns
unfolding reason_kept
returns c =
    let asked = rw c.whole_reason-whole.ensures at (sym (c.any-2.ensures (by_reason c.whole_reason-whole.result) (λ row b post. search rules)) ∙ c.if-any-2.false) in
    rw (ne_eqb _ _ c.if-s-eq-NO_REASON.false, sym (c.any.ensures (by_reason c.args.s) (λ row b post. search rules)) ∙ c.if-any.false, asked) c.q_general-2.ensures
