-- However an input is cut into pieces, and wherever the lines are fetched in between, what the calls' promises say stands in the buffer is, in order,
-- the unit list of document 01. Assumes nothing.
use Prim.Native.Nat.{ℕ, ◌+◌, ◌-◌, ◌≤◌}
use mathlib.Core.List.{List, [], ◌∷◌, ◌++◌, append_assoc}
use mathlib.Core.Path.{◌≡◌, refl, sym, ap, ◌∙◌}
use native.Mathlib.Omega.{arith}
use lib.ListN.{length, take, drop}
use lib.Seq.{sets, sets-eq, take_at, drop_at, length-take-le}
use Rattle.unit_lines.specs.Records.{records_of, line_of, lines_of, unless_empty, unit_list}
use Rattle.unit_lines.specs.Machine.{go_on, shrunk, keep, text_of}
use Rattle.unit_lines.specs.Feeding.{feeding, Feeds, Finished, no_room, Finishes}
use Rattle.unit_lines.specs.Listing.{Lists, Rests, fetched, written_by, Listed, start, fed, piece}
use Rattle.unit_lines.specs.declared.text.ListMachine.{ListMachine}
use Rattle.unit_lines.specs.declared.machine.Fed.{Fed}
use Rattle.unit_lines.specs.declared.listing.Piece.{Piece}
use Rattle.unit_lines.proofs.Finishing.{finished}
use Rattle.unit_lines.proofs.GoOn.{go_append, go_split}
use Rattle.unit_lines.proofs.Run.{Taken, run_taken}
use Rattle.unit_lines.proofs.Shrunk.{kept_text, ended_kept, rest_kept, last_kept}

pub lines_append : (a b : List (List ℕ)) → lines_of (a ++ b) ≡ lines_of a ++ lines_of b
unfolding lines_of
lines_append [] b = refl
lines_append (t ∷ a) b = rw (lines_append a b) (sym (append_assoc (line_of t) (lines_of a) (lines_of b)))

fetched_all : (old : List ℕ) (at : ℕ) (w : List ℕ) → length w ≤ length old - at → fetched (sets old at w) at (length w) ≡ w
fetched_all old at [] h = refl
fetched_all old at (c ∷ w) h =
    let r : at + length (c ∷ w) ≤ length old = omega arith in
    let rest = drop (at + length (c ∷ w)) old in
    let before : length (take at old) ≡ at = length-take-le at old (omega arith) in
    rw (sets-eq (c ∷ w) old at r, append_assoc (take at old) (c ∷ w) rest, drop_at (take at old) ((c ∷ w) ++ rest) at before)
    (take_at (c ∷ w) rest (length (c ∷ w)) refl)

record So (input output : List ℕ) (m : ListMachine) : Type 0 where
  written : output ≡ lines_of (go_on [] input).ended
  text : text_of m ≡ shrunk (go_on [] input).rest

-- the characters u taken, their lines w, and the text t held after them
so_on : (input output : List ℕ) (m : ListMachine) (u w t : List ℕ) → So input output m → w ≡ lines_of (go_on (text_of m) u).ended → t ≡ (go_on (text_of m) u).rest
    → So (input ++ u) (output ++ w) (keep t)
so_on input output m u w t h a b =
    let x = (go_on [] input).rest in
    let g = go_append [] input u in
    record {
      written = rw (g, h.written, a, h.text, lines_append (go_on [] input).ended (go_on x u).ended, ended_kept x u);
      text = rw (g, kept_text t, b, h.text) (rest_kept x u);
    }

so_fed : (input output : List ℕ) (m : ListMachine) (s : List ℕ) (from : ℕ) (old : List ℕ) (at : ℕ) (new : List ℕ) (r : Fed) → So input output m → Feeds m s from old at new r
    → So (input ++ take r.taken (drop from s)) (output ++ fetched new at r.written) r.machine
so_fed input output m s from old at new r h p =
    let q = feeding m s from old at in
    let t : Taken (text_of m) (drop from s) q = run_taken (length old - at) (text_of m) (drop from s) in
    let n : r.written ≡ length q.written = ap (λ (x : Fed). x.written) p.result in
    let k : length q.written ≤ length old - at = omega (arith, p.room) in
    rw (p.result, p.bytes, fetched_all old at q.written k) (so_on input output m (take q.taken (drop from s)) q.written q.held h t.written t.held)

so_piece : (input output : List ℕ) (m : ListMachine) (s old new : List ℕ) (r : Piece) → So input output m → Lists m s old new r
    → So (input ++ s) (output ++ fetched new 0 r.written) r.machine
so_piece input output m s old new r h p =
    let w = lines_of (go_on (text_of m) s).ended in
    let n : r.written ≡ length w = ap (λ (x : Piece). x.written) p.result in
    let k : length w ≤ length old - 0 = omega (arith, p.room) in
    rw (p.result, p.bytes, fetched_all old 0 w k) (so_on input output m s w (go_on (text_of m) s).rest h refl refl)

so : {input output : List ℕ} {m : ListMachine} → Listed input output m → So input output m
unfolding go_on lines_of
so (start m e) = record { written = refl; text = rw e (kept_text []) }
so (fed {input = i} {output = o} {m = m} l s from old at new r p) = so_fed i o m s from old at new r (so l) p
so (piece {input = i} {output = o} {m = m} l s old new r p) = so_piece i o m s old new r (so l) p

-- the line of a last record completes document 01's list
complete : {input output : List ℕ} {m : ListMachine} → Listed input output m → output ++ lines_of (unless_empty (text_of m)) ≡ unit_list input
unfolding unit_list records_of
complete {input} {output} {m} l =
    let k = so l in
    let t = (go_on [] input).rest in
    rw (k.text, k.written, last_kept t, ← go_split input, lines_append (go_on [] input).ended (unless_empty t))

-- `finish`, unless it had no room, completes the unit list of all that was taken
pub listed : {input output : List ℕ} {m : ListMachine} → Listed input output m → (old : List ℕ) (at : ℕ) (new : List ℕ) (r : Finished) → Finishes m old at new r → (r ≡ no_room → ⊥)
    → output ++ fetched new at (written_by r) ≡ unit_list input
listed {input} {output} {m} l old at new r p n =
    let w = lines_of (unless_empty (text_of m)) in
    let f = finished (length old - at) (text_of m) (λ e. n (p.result ∙ e)) in
    rw (p.result, p.bytes, f.0, f.1, fetched_all old at w f.2) (complete l)

-- and so does `list_rest`
pub listed_rest : {input output : List ℕ} {m : ListMachine} → Listed input output m → (old new : List ℕ) (n : ℕ) → Rests m old new n → output ++ fetched new 0 n ≡ unit_list input
listed_rest {input} {output} {m} l old new n p =
    let w = lines_of (unless_empty (text_of m)) in
    let k : length w ≤ length old - 0 = omega (arith, p.result, p.room) in
    rw (p.result, p.bytes, fetched_all old 0 w k) (complete l)
