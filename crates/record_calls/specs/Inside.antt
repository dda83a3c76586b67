-- What is gathered and the lines end inside their buffers. Assumes nothing.
use Rattle.std.specs.Prelude.{ℕ, ◌≤◌}
use Rattle.std.specs.declared.ops.ControlFlow.{ControlFlow}
use Rattle.std.specs.declared.ops.ControlFlow.TheVariants.{Continue, Break}
use Rattle.record_calls.specs.declared.Gathered.{Gathered}

-- by the lengths of the buffers of the input and of the lines
abbrev pub Inside : ℕ → ℕ → ControlFlow ℕ Gathered → Type 0
Inside input out (Continue g) = (g.from ≤ g.have) × (g.have ≤ input) × (g.end ≤ out)
Inside input out (Break end) = end ≤ out
