-- What a turn promises: the machine heard what was read and nothing else, and its lines stand in the buffer; or there was nothing to hear. Assumes nothing.
use Rattle.std.specs.Prelude.{ℕ, ◌≤◌, List, ◌++◌, ◌≡◌, length, take, Option, Some, None}
use Rattle.unit_lines.specs.Records.{unit_list}
use Rattle.unit_lines.specs.Listing.{Lists, Listed, fetched}
use Rattle.unit_lines.specs.declared.text.ListMachine.{ListMachine}
use Rattle.unit_lines.specs.declared.listing.Piece.{Piece}

-- by the input buffer after the read, and the lent buffer before and after
pub data Turns (m : ListMachine) (input old new : List ℕ) (r : Option Piece) : Type 0 where
  more : (n : ℕ) (p : Piece) → r ≡ Some p → Lists m (take n input) old new p → Turns m input old new r
  ended : r ≡ None → new ≡ old → Turns m input old new r

-- a machine that began with no text and heard pieces of an input, one behind the other, and nothing else
pub record Heard (m : ListMachine) : Type 0 where
  pub input : List ℕ
  pub output : List ℕ
  pub listed : Listed input output m

-- at the end of the input the lines written, whatever the machine has heard, and what stands in front of the buffer are document 01's list of it;
-- where no end was found nothing is written
pub record Ends (last : Option ListMachine) (new : List ℕ) (n : ℕ) : Type 0 where
  pub inside : n ≤ length new
  pub complete : (m : ListMachine) → last ≡ Some m → (input output : List ℕ) → Listed input output m → output ++ fetched new 0 n ≡ unit_list input
  pub nothing : last ≡ None → n ≡ 0
