-- What a turn leaves: its lines inside the buffer, a machine that has heard the piece, and at the end of the input the list complete. Assumes nothing.
use Prim.Native.Nat.{ℕ, ◌≤◌}
use mathlib.Core.List.{List, [], ◌++◌}
use mathlib.Core.Path.{◌≡◌, refl, ap, subst, ◌∙◌}
use native.Mathlib.Omega.{arith}
use lib.ListN.{length, take}
use lib.Seq.{length-sets}
use Rattle.std.specs.Prelude.{Option, Some, None}
use Rattle.unit_lines.specs.Records.{lines_of, unless_empty}
use Rattle.unit_lines.specs.Machine.{keep, text_of}
use Rattle.unit_lines.specs.Listing.{Rests, start, piece}
use Rattle.unit_lines.specs.declared.text.ListMachine.{ListMachine}
use Rattle.unit_lines.specs.declared.listing.Piece.{Piece}
use Rattle.unit_lines.proofs.Listed.{listed_rest}
use Rattle.unit_list.specs.Turns.{Turns, more, ended, Heard, Ends}

pub turn_inside : {m : ListMachine} {input old new : List ℕ} {r : Option Piece} {p : Piece} → Turns m input old new r → r ≡ Some p → p.written ≤ length old
turn_inside {m} {input} {old} {new} {r} {p} (more n q e l) f =
    let same : q ≡ p = cc in
    subst (λ (x : Piece). x.written ≤ length old) same l.room
turn_inside (ended e k) f = cc

pub heard_nothing : {m : ListMachine} → m ≡ keep [] → Heard m
heard_nothing {m} e = record { input = []; output = []; listed = start m e }

pub turn_heard : {m : ListMachine} {input old new : List ℕ} {r : Option Piece} {p : Piece} → Heard m → Turns m input old new r → r ≡ Some p → Heard p.machine
turn_heard {m} {input} {old} {new} {r} {p} h (more n q e l) f =
    let same : q ≡ p = cc in
    subst (λ (x : Piece). Heard x.machine) same
    (record { input = h.input ++ take n input; output = h.output ++ take q.written new; listed = piece h.listed (take n input) old new q l })
turn_heard h (ended e k) f = cc

pub ends_complete : {last : Option ListMachine} {m : ListMachine} {old new : List ℕ} {n : ℕ} → last ≡ Some m → Rests m old new n → Ends last new n
ends_complete {last} {m} {old} {new} {n} e p =
    let l : length new ≡ length old = ap length p.bytes ∙ length-sets old 0 (lines_of (unless_empty (text_of m))) in
    record {
      inside = omega (arith, p.room);
      complete = λ k f input output h. listed_rest h old new n (let g : m ≡ k = cc in subst (λ (x : ListMachine). Rests x old new n) g p);
      nothing = λ f. cc;
    }

-- the input has not ended: no machine is at its end
pub ends_more : {last : Option ListMachine} {new : List ℕ} → ((m : ListMachine) → last ≡ Some m → ⊥) → Ends last new 0
ends_more h = record { inside = omega arith; complete = λ m f. absurd (h m f); nothing = λ f. refl }

-- no end was found, since there is more or reading failed
pub ends_failed : {last : Option ListMachine} {new : List ℕ} → last ≡ None → Ends last new 0
ends_failed e = record { inside = omega arith; complete = λ m f. cc; nothing = λ f. refl }
