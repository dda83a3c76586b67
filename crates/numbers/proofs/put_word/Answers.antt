-- The bytes copied are the run of the definition. Assumes nothing.
use mathlib.Core.Path.{◌∙◌}
use native.Mathlib.Omega.{arith}
use Rattle.numbers.specs.Words.{word_bytes, long_bytes}
use Rattle.numbers.proofs.Runs.{put_mid_sets}
use Rattle.numbers.proofs.put_word.Goals as goal

pub returns : goal.returns
unfolding word_bytes long_bytes
returns c = put_mid_sets _ _ _ _ _ (c.copy_from_slice.ensures.after ∙ c.to_le_bytes.ensures) (omega arith) (omega arith)
