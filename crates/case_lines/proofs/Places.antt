-- A place of the list as a part of it. Assumes nothing.
use Prim.Native.Nat.{ℕ, suc, ◌*◌, ◌≤◌}
use mathlib.Core.List.{List}
use mathlib.Core.Path.{◌≡◌, refl, ap, ◌∙◌}
use native.Mathlib.Omega.{arith}
use lib.ListN.{length, take, drop, length-drop}
use lib.Seq.{length-take-le}
use Rattle.decimals.specs.Put.{Put}
use Rattle.guideline.specs.Check.{answer_length}
use Rattle.guideline.specs.Counts.{numbers_at}
use Rattle.stream.specs.Lines.{line}
use Rattle.stream.proofs.InLine.{line_of_these}

module _ (list : List ℕ) (i : ℕ) where
  -- the numbers from i * 9 on, nine of them
  part_placed : (from long : ℕ) → from ≡ i * answer_length → long ≡ answer_length → take long (drop from list) ≡ numbers_at i list
  part_placed from long f l = rw (f, l) refl

  pub part_long : (from long : ℕ) → from ≡ i * answer_length → long ≡ answer_length → suc i * answer_length ≤ length list → length (take long (drop from list)) ≡ answer_length
  part_long from long f l h =
      ap length (part_placed from long f l) ∙ length-take-le answer_length (drop (i * answer_length) list) (rw (length-drop (i * answer_length) list) (omega arith))

  -- its line is that of the place
  pub place_put : {old new : List ℕ} {at end : ℕ} (from long : ℕ) → Put old at (line (take long (drop from list))) new end → from ≡ i * answer_length → long ≡ answer_length → Put old at (line (numbers_at i list)) new end
  place_put from long p f l = line_of_these (take long (drop from list)) (numbers_at i list) p (part_placed from long f l)
