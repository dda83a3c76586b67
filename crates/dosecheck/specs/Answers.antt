-- What the check promises of its result, for the lent tables as bytes and an entry: it is the answer of document 01's check on the tables that
-- the bytes spell.
use Rattle.std.specs.Prelude.{◌≡◌}
use Rattle.guideline.specs.declared.answer.Answer.{Answer}
use Rattle.guideline.specs.declared.entries.Entry.{Entry}
use Rattle.guideline.specs.Bytes.{Lents, spelled}
use Rattle.guideline.specs.Check.{check}

abbrev pub Answers : Lents → Entry → Answer → Type 0
Answers b e r = r ≡ check (spelled b) e
