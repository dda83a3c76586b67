-- Each turn reads bytes or finds the end of the stream, and nothing is read behind it. Assumes nothing.
use Rattle.std.proofs.Common.{arith, ℕ, zero, suc, ◌+◌, ◌*◌, ◌-◌, ◌≤◌, ◌<◌, Bool, false, nat_eq, List, length, take, drop, ◌≡◌, sym, ◌∙◌, length-drop}
use borrow.Author.Tests.{ne_eqb}
use borrow.Rule.Slice.PartMut.{same_len_mid}
use lib.Seq.{length-take-le}
use Rattle.stream.specs.Cases.{longest_case, what_next}
use Rattle.stream.specs.declared.cases.Form.{Form}
use Rattle.stream.specs.declared.cases.Next.TheVariants.{Read}
use Rattle.stream.proofs.Inside.{answer_whole, read_inside}
use Rattle.bulk.proofs.read_case.Invariants.{turn_left}
use Rattle.bulk.proofs.read_case.Goals as goal

less : (l have n : ℕ) (ended : Bool) → ended ≡ false → have + n ≤ l → 2 * (l - (have + n)) + turn_left (nat_eq n 0) < 2 * (l - have) + turn_left ended
less l have zero ended e h = rw e (omega arith)
less l have (suc n) ended e h = rw (e, ne_eqb (suc n) 0 (λ z. omega arith)) (omega arith)

-- what is read stands behind what is there, inside the longest case
known : (f : Form) (case : List ℕ) (have until : ℕ) (ended : Bool) → have ≤ length case → what_next f (take have case) ended ≡ Read until
    → (ended ≡ false) × (have < until) × (until ≤ longest_case)
known f case have until ended h e =
    let r = read_inside f (take have case) ended until e in
    let l = length-take-le have case h in
    (r.0, omega (arith, r.1, l), r.2)

-- and a piece ends inside what was to be read
piece_inside : (case buf : List ℕ) (have until count : ℕ) → have < until → until ≤ longest_case → longest_case ≤ length case → length buf ≡ length (take (until - have) (drop have case)) → count ≤ length buf
    → have + count ≤ longest_case
piece_inside case buf have until count a b l e h =
    let k : length (take (until - have) (drop have case)) ≡ until - have = length-take-le (until - have) (drop have case) (rw (length-drop have case) (omega arith)) in
    omega arith

pub returns-in-Answer-clause-ok : goal.returns-in-Answer-clause-ok
returns-in-Answer-clause-ok g c = (omega arith, answer_whole _ _ _ (sym c.in-Answer.ensures))

pub slice_bounds-read_piece-count : goal.slice_bounds-read_piece-count
slice_bounds-read_piece-count g c =
    let k = known c.args.form c.loop-until.case c.loop-until.have c.in-Read.until c.loop-until.ended (omega arith) (sym c.in-Read.ensures) in
    omega arith

pub slice_bounds-read_piece-start : goal.slice_bounds-read_piece-start
slice_bounds-read_piece-start g c =
    let k = known c.args.form c.loop-until.case c.loop-until.have c.in-Read.until c.loop-until.ended (omega arith) (sym c.in-Read.ensures) in
    omega arith

pub slice_bounds-read_piece-end : goal.slice_bounds-read_piece-end
slice_bounds-read_piece-end g c =
    let k = known c.args.form c.loop-until.case c.loop-until.have c.in-Read.until c.loop-until.ended (omega arith) (sym c.in-Read.ensures) in
    omega arith

pub loop-until-smaller : goal.loop-until-smaller
loop-until-smaller g c =
    let k = known c.args.form c.loop-until.case c.loop-until.have c.in-Read.until c.loop-until.ended (omega arith) (sym c.in-Read.ensures) in
    let i = piece_inside c.loop-until.case c.read_piece.new.buf c.loop-until.have c.in-Read.until c.in_ok-count-in-Read.count k.1 k.2 (omega arith) c.read_piece.auto.buf c.in_ok-count-in-Read.ensures.ok in
    less longest_case c.loop-until.have c.in_ok-count-in-Read.count c.loop-until.ended k.0 i

pub loop-until-preserved : goal.loop-until-preserved
loop-until-preserved g c =
    let k = known c.args.form c.loop-until.case c.loop-until.have c.in-Read.until c.loop-until.ended (omega arith) (sym c.in-Read.ensures) in
    let i = piece_inside c.loop-until.case c.read_piece.new.buf c.loop-until.have c.in-Read.until c.in_ok-count-in-Read.count k.1 k.2 (omega arith) c.read_piece.auto.buf c.in_ok-count-in-Read.ensures.ok in
    (i, same_len_mid c.loop-until.have (c.in-Read.until - c.loop-until.have) c.loop-until.case c.read_piece.new.buf c.read_piece.auto.buf ∙ c.loop-until.invariant.1)
