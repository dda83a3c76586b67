use native.Mathlib.Omega.{arith}
use borrow.Author.Rules.{rules}
use mathlib.Core.Path.{◌≡◌}
use lib.ListN.{length, length-take}
use Rattle.unit_lines.specs.Feeding.{Feeds}
use Rattle.unit_lines.proofs.Pieces.{lists}
use Rattle.unit_lines.proofs.listing.list_piece.Goals as goal

pub returns : goal.returns
returns c =
    let m = c.args.m in
    let e : length m.bytes ≡ 66 = search rules in
    let p : Feeds m c.args.input.now 0 c.args.out.now 0 c.feed-fed.new.out c.feed-fed.result = c.feed-fed.ensures in
    lists (omega (arith, length-take m.len m.bytes)) c.requires p
