-- There are as many rows as were counted. Assumes nothing.
use borrow.Author.Rules.{rules}
use Rattle.guideline.specs.Table.{every}
use Rattle.tables.proofs.Asked.{tells_number}
use Rattle.tables.proofs.t643.number.Goals as goal

pub returns : goal.returns
returns c = tells_number c.args.rows.now every (c.tally.ensures.tally every (λ row b post. search rules))
