use mathlib.Core.Path.{sym, ◌∙◌}
use borrow.Author.Tests.{leb-false}
use Rattle.unit_lines.proofs.Feeding.{feeds_nothing, past_input, no_room}
use Rattle.unit_lines.proofs.machine.feed.Goals as goal
use Rattle.unit_lines.proofs.machine.feed.Goals.{else-from-input-via-then-from-input+else-has_room, else-from-input-via-else-from-input}

pub returns : goal.returns
returns c =
    let m = c.args.m in
    let input = c.args.input.now in
    let from = c.args.from in
    let out = c.args.out.now in
    let at = c.args.at in
    feeds_nothing m input from out at _
    (elim c.else-from-input.branch [
      | else-from-input-via-then-from-input+else-has_room w ↦ no_room m input from out at (leb-false _ _ (sym w.has_room.ensures ∙ w.if-has_room.false))
      | else-from-input-via-else-from-input w ↦ past_input m input from out at w.if-from-input.false
    ])
    c.grown.ensures
