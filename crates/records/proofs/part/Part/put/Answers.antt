use Rattle.records.proofs.part.Part.put.Goals as goal

pub returns-in-Mutation : goal.returns-in-Mutation
returns-in-Mutation c = rw (c.in-Mutation.is, c.put_number.ensures)

pub returns-in-Number : goal.returns-in-Number
returns-in-Number c = rw (c.in-Number.is, c.in-Number.width-is, c.put_number-in-Number.ensures)
