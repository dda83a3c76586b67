-- What the tally tells is what the rows answer. Assumes nothing.
use native.Mathlib.Omega.{arith}
use Rattle.tables.proofs.Asked.{tells_none, tells_one, tells_many}
use Rattle.tables.proofs.ask.Goals as goal

pub row-requires : goal.row-requires
row-requires g c = let h = c.tally-tally.ensures.inside (omega (arith, c.in-1.is)) in omega (arith, h)

pub returns-in-0 : goal.returns-in-0
returns-in-0 g c p tests = tells_none c.args.rows.now p (c.tally-tally.ensures.tally p tests) c.in-0.is

pub returns-in-1 : goal.returns-in-1
returns-in-1 g c p tests =
    tells_one c.args.rows.now p (c.tally-tally.ensures.tally p tests) c.in-1.is c.row.ensures

pub returns-in_default : goal.returns-in_default
returns-in_default g c p tests =
    tells_many c.args.rows.now p (c.tally-tally.ensures.tally p tests) (omega arith) (omega arith)
