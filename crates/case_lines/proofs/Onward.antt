-- Lines behind lines: those of one entry more, the rest of a case behind what is written, and what a caller goes on by. Assumes nothing.
use Prim.Native.Nat.{ℕ, ◌+◌, ◌-◌, ◌≤◌, ◌<◌}
use mathlib.Core.Bool.{Bool, true, false, cond}
use mathlib.Core.List.{List, ◌++◌}
use Rattle.std.specs.Prelude.{None, Some}
use mathlib.Core.Path.{◌≡◌, refl, sym, ap, ◌∙◌}
use native.Mathlib.Omega.{arith}
use lib.Dec.{leb}
use lib.ListN.{length}
use Rattle.decimals.specs.Put.{Put}
use Rattle.guideline.specs.Counts.{in_turn}
use Rattle.ranges.specs.Soundly.{soundness}
use Rattle.stream.specs.Cases.{tables_of, entry_count}
use Rattle.stream.specs.declared.cases.Form.{Form}
use Rattle.case_lines.specs.Lines.{lines_of, lines_from, all_lines, longest_text, Fitting, test_of, Answered}
use Rattle.case_lines.specs.declared.Progress.{Progress}
use Rattle.case_lines.proofs.Turns.{same_in_turn, join_in_turn, put_next}

module _ (f : Form) (b : List ℕ) where
  pub no_line : (from : ℕ) (old : List ℕ) (at : ℕ) → Put old at (lines_from f b from (from - from)) old at
  unfolding in_turn
  no_line from old at = let e : from - from ≡ 0 = omega arith in rw e (record { bytes = refl; place = omega arith })

  pub one_more : (old mid new : List ℕ) (from i at end behind next : ℕ) → from ≤ i → Put old at (lines_from f b from (i - from)) mid end → Put mid end (lines_of f b i) new behind → next ≡ i + 1 → Put old at (lines_from f b from (next - from)) new behind
  one_more old mid new from i at end behind next h p q n =
      let k : from + (i - from) ≡ i = omega arith in
      put_next (λ k. lines_of f b (from + k)) old mid new at end behind (i - from) (next - from) p (rw k q) (omega arith)

  -- what one call writes and what the next writes are the lines of both
  pub lines_join : (i m n : ℕ) → lines_from f b i (m + n) ≡ lines_from f b i m ++ lines_from f b (i + m) n
  lines_join i m n =
      join_in_turn (λ k. lines_of f b (i + k)) m n
      ∙ ap (λ (l : List ℕ). lines_from f b i m ++ l) (same_in_turn (λ k. lines_of f b (i + (m + k))) (λ k. lines_of f b (i + m + k)) n (λ k _. let e : i + (m + k) ≡ i + m + k = omega arith in ap (lines_of f b) e))

  pub rest_of_case : (m : ℕ) → m ≤ entry_count b → lines_from f b 0 m ++ lines_from f b m (entry_count b - m) ≡ all_lines f b
  rest_of_case m h =
      let e : 0 + m ≡ m = omega arith in
      let k : m + (entry_count b - m) ≡ entry_count b = omega arith in
      ap (λ (k : ℕ). lines_from f b 0 m ++ lines_from f b k (entry_count b - m)) (sym e) ∙ sym (lines_join 0 m (entry_count b - m)) ∙ ap (lines_from f b 0) k

-- what was tested of the tables of a case fits it
pub test_fits : (b : List ℕ) → Fitting (test_of b) (tables_of b)
unfolding test_of
test_fits b = go (leb (entry_count b) 1)
  where
    go : (t : Bool) → Fitting (cond t None (Some (soundness (tables_of b)))) (tables_of b)
    go true = tt
    go false = refl

-- a call that leaves entries has written the lines of some, or found the place without room for those of any
pub moves : {f : Form} {b old new : List ℕ} {from at i : ℕ} {r : Progress} → Answered f b from old at new r → r.next ≡ Some i → (from ≤ i) × (i < entry_count b) × ((i ≡ from) → length new < at + longest_text f)
unfolding in_turn
moves {f} {b} {old} {new} {from} {at} {i} {r} a m =
    let l = a.left i m in (
      rw m at a.onward,
      l.0,
      λ e.
          let z : i - from ≡ 0 = omega arith in
          let p : r.end ≡ at + 0 = rw (m, z) at a.text.place in
          omega (arith, l.1),
    )
