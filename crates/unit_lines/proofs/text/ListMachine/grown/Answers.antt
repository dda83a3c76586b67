use mathlib.Core.List.{[]}
use mathlib.Core.Path.{◌≡◌, ◌∙◌}
use Rattle.unit_lines.specs.Machine.{text_of, keep}
use Rattle.unit_lines.proofs.Kept.{is_kept, keep_more}
use Rattle.unit_lines.proofs.text.ListMachine.grown.Goals as goal

pub more_kept-requires : goal.more_kept-requires
more_kept-requires c = is_kept _ [] c.empty.ensures

pub more_kept-requires-2 : goal.more_kept-requires-2
more_kept-requires-2 c = is_kept _ _ c.more_kept.ensures

pub returns : goal.returns
returns c =
    let t = text_of c.args.self.now in
    let e : c.more_kept.result ≡ keep t = rw c.text.ensures at (c.more_kept.ensures ∙ keep_more _ [] _ c.empty.ensures) in
    c.more_kept-2.ensures ∙ keep_more _ t c.args.more.now e
