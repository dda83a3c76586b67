-- What a caller of feed and finish wants of their promises: it takes no more than the input, moves on while there is room, and keeps the
-- buffer's length. Assumes nothing.
use Prim.Native.Nat.{ℕ, ◌+◌, ◌-◌, ◌<◌, ◌≤◌}
use mathlib.Core.List.{List}
use mathlib.Core.Path.{◌≡◌, ap}
use native.Mathlib.Omega.{arith}
use lib.ListN.{length, drop, length-drop}
use lib.Seq.{length-sets}
use Rattle.unit_lines.specs.Machine.{longest_line, text_of}
use Rattle.unit_lines.specs.Feeding.{feeding, Feeds}
use Rattle.unit_lines.specs.declared.text.ListMachine.{ListMachine}
use Rattle.unit_lines.specs.declared.machine.Fed.{Fed}
use Rattle.unit_lines.proofs.Run.{run_taken, run_moves}

module _ {m : ListMachine} {input : List ℕ} {from : ℕ} {old : List ℕ} {at : ℕ} {new : List ℕ} {f : Fed} (p : Feeds m input from old at new f) where
  taken : f.taken ≡ (feeding m input from old at).taken
  taken = ap (λ (x : Fed). x.taken) p.result

  pub fed_inside : from ≤ length input → from + f.taken ≤ length input
  fed_inside h = omega (arith, taken, (run_taken (length old - at) (text_of m) (drop from input)).fits, length-drop from input)

  pub fed_moves : longest_line ≤ length old - at → from < length input → 1 ≤ f.taken
  fed_moves r h =
      let n = length-drop from input in
      omega (arith, taken, run_moves (length old - at) (text_of m) (drop from input) r (omega arith))

  pub fed_length : length new ≡ length old
  fed_length = rw p.bytes (length-sets old at (feeding m input from old at).written)
