use Rattle.records.proofs.part.Part.fits.Goals as goal

pub returns-in-Mutation : goal.returns-in-Mutation
returns-in-Mutation c = rw c.in-Mutation.is

pub returns-in-Number : goal.returns-in-Number
returns-in-Number c = rw (c.in-Number.is, c.in-Number.width-is, c.pow.ensures)
