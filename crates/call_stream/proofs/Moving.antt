-- Bytes moved to the front, one after the other. Assumes nothing.
use Prim.Native.Nat.{ℕ, ◌+◌, ◌<◌}
use mathlib.Core.List.{List}
use mathlib.Core.Path.{◌≡◌, sym, ◌∙◌}
use native.Mathlib.Omega.{arith}
use native.Mathlib.Nat.{zero-add}
use lib.ListN.{length, get_or, set, take, drop, length-drop}
use lib.Seq.{sets, get_or-drop, length-take-le}
use Rattle.numbers.proofs.Runs.{behind_run}
use Rattle.decimals.proofs.Puts.{sets_next}

module _ (old s : List ℕ) (from i : ℕ) (h : from + i < length old) (e : s ≡ sets old 0 (take i (drop from old))) where
  -- the byte to be moved is not yet written over
  there : get_or s (from + i) 0 ≡ get_or (drop from old) i 0
  there =
      let n : length (take i (drop from old)) ≡ i = length-take-le i (drop from old) (rw (length-drop from old) (omega arith)) in
      rw e (behind_run old 0 (take i (drop from old)) (from + i) (omega arith) ∙ sym (get_or-drop from old i 0))

  pub move_turn : (to here : ℕ) → to ≡ i → here ≡ from + i → set s to (get_or s here 0) ≡ sets old 0 (take (i + 1) (drop from old))
  move_turn to here f g = rw (f, g, there, e) (rw (zero-add i) at (sets_next old 0 (drop from old) i (rw (length-drop from old) (omega arith))))
