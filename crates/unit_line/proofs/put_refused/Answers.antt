use Rattle.records.specs.Numbers.{read_refusal}
use Rattle.unit_line.proofs.Pieces.{refused_pieces}
use Rattle.decimals.proofs.Puts.{put_on}
use Rattle.unit_line.proofs.put_refused.Goals as goal

pub returns : goal.returns
returns c = rw (refused_pieces (read_refusal c.args.e)) (put_on c.put_text-number.ensures (rw c.number.ensures at c.put_field.ensures))
