-- What holds of the bytes that were read.
use Rattle.std.specs.Prelude.{ℕ, ◌≤◌, List, length, take}
use Rattle.stream.specs.Cases.{Whole}
use Rattle.stream.specs.declared.cases.Form.{Form}
use Rattle.bulk.specs.declared.Arrival.{Arrival}
use Rattle.bulk.specs.declared.Arrival.TheVariants.{Case, Broken, Finished}

-- a whole case stands in the first n bytes
abbrev pub Held : Form → List ℕ → Arrival → Type 0
Held f b (Case n) = (n ≤ length b) × Whole f (take n b)
Held f b Broken = Unit {0}
Held f b Finished = Unit {0}
