use Rattle.unit_line.proofs.Pieces.{row_pieces}
use Rattle.decimals.proofs.Puts.{put_on}
use Rattle.unit_line.proofs.put_row.Goals as goal

pub returns : goal.returns
returns c =
    rw (row_pieces c.args.r)
    (put_on c.put_field-srtcde.ensures
    (put_on c.put_field-code.ensures
    (put_on c.put_amount-amount.ensures
    c.put_field.ensures)))
