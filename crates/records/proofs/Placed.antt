-- Every layout: a write that is done puts the record at its place and touches nothing else; a refused write leaves the buffer as it was.
use Prim.Native.Nat.{ℕ, ◌+◌, ◌≤◌}
use mathlib.Core.Bool.{Bool, true, false}
use mathlib.Core.List.{List, ◌++◌, append_assoc}
use mathlib.Core.Path.{◌≡◌, refl}
use native.Mathlib.Omega.{arith}
use borrow.Author.Tests.{leb-true}
use lib.ListN.{length, take, drop, length-append}
use lib.Seq.{take_at, drop_at, length-take-le}
use lib.Dec.{leb}
use Rattle.records.specs.Digits.{chars, unless}
use Rattle.records.specs.Layout.{Part, Values, total, fits, spell, answer, leaving}
use Rattle.records.proofs.Spelling.{length_spell}

split : (b c : Bool) → ◌≡◌ {A = ℕ} (unless b 205 (unless c 206 0)) 0 → (b ≡ true) × (c ≡ true)
split true true e = (refl, refl)
split true false e = absurd (omega arith)
split false c e = absurd (omega arith)

module _ (ps : List Part) (v : Values ps) (at : ℕ) (old : List ℕ) where
  pub too_wide_leaves : answer ps v at (length old) ≡ 205 → leaving ps v at old ≡ old
  unfolding leaving
  too_wide_leaves e = rw e

  pub no_room_leaves : answer ps v at (length old) ≡ 206 → leaving ps v at old ≡ old
  unfolding leaving
  no_room_leaves e = rw e

module _ (ps : List Part) (v : Values ps) (at : ℕ) (old : List ℕ) (done : answer ps v at (length old) ≡ 0) where
  pub done_fits : fits ps v ≡ true
  unfolding answer
  done_fits = (split (fits ps v) (leb (at + total ps) (length old)) done).0

  pub done_room : at + total ps ≤ length old
  unfolding answer
  done_room = leb-true (at + total ps) (length old) (split (fits ps v) (leb (at + total ps) (length old)) done).1

  before : length (take at old) ≡ at
  before = length-take-le at old (omega (arith, done_room))

  pub done_before : take at (leaving ps v at old) ≡ take at old
  unfolding leaving
  done_before = rw done (take_at (take at old) (spell ps v ++ drop (at + length (spell ps v)) old) at before)

  pub done_there : chars (leaving ps v at old) at (total ps) ≡ spell ps v
  unfolding leaving
  done_there =
      rw (done, drop_at (take at old) (spell ps v ++ drop (at + length (spell ps v)) old) at before)
      (take_at (spell ps v) (drop (at + length (spell ps v)) old) (total ps) (length_spell ps v))

  pub done_after : drop (at + total ps) (leaving ps v at old) ≡ drop (at + total ps) old
  unfolding leaving
  done_after =
      let start : length (take at old ++ spell ps v) ≡ at + total ps = rw (length-append (take at old) (spell ps v), before, length_spell ps v) in
      rw (done, length_spell ps v, ← append_assoc (take at old) (spell ps v) (drop (at + total ps) old))
      (drop_at (take at old ++ spell ps v) (drop (at + total ps) old) (at + total ps) start)
