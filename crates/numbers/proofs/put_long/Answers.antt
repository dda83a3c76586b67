-- The bytes copied are the run of the definition: the low four and the high four. Assumes nothing.
use Prim.Native.Nat.{ℕ}
use mathlib.Core.List.{[], ◌∷◌}
use mathlib.Core.Path.{◌≡◌, ◌∙◌, ap}
use native.Mathlib.Omega.{arith}
use lib.ListN.{length}
use Rattle.std.specs.Int.{w64, to_le_bytes}
use Rattle.numbers.specs.Words.{word_bytes, long_bytes}
use Rattle.numbers.proofs.Runs.{put_mid_sets}
use Rattle.numbers.proofs.put_long.Goals as goal

same_eight : {a b c d e f g h i j k l m n o p : ℕ} → a ≡ i → b ≡ j → c ≡ k → d ≡ l → e ≡ m → f ≡ n → g ≡ o → h ≡ p → a ∷ b ∷ c ∷ d ∷ e ∷ f ∷ g ∷ h ∷ [] ≡ i ∷ j ∷ k ∷ l ∷ m ∷ n ∷ o ∷ p ∷ []
same_eight a b c d e f g h = rw (a, b, c, d, e, f, g, h)

eight_bytes : (n : ℕ) → to_le_bytes w64 n ≡ long_bytes n
unfolding word_bytes long_bytes
eight_bytes n = same_eight (omega arith) (omega arith) (omega arith) (omega arith) (omega arith) (omega arith) (omega arith) (omega arith)

pub returns : goal.returns
returns c = put_mid_sets _ _ _ _ (long_bytes c.args.n) (c.copy_from_slice.ensures.after ∙ c.to_le_bytes.ensures ∙ eight_bytes c.args.n) (omega (arith, ap length (eight_bytes c.args.n))) (omega arith)
