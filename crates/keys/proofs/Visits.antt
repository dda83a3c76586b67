-- A loop that goes from row to row with a key misses no row that only such rows can be. Assumes nothing.
use Prim.Native.Nat.{ℕ, ◌+◌, ◌<◌, ◌≤◌}
use mathlib.Core.Path.{◌≡◌, refl, ◌∙◌}
use mathlib.Core.Bool.{Bool, true, false}
use mathlib.Core.Logic.{⊎_elim}
use native.Mathlib.Nat.{eq-or-lt_of_le}
use native.Mathlib.Omega.{arith}
use borrow.Author.Tests.{eq-eqb, ne_eqb, ltb-true, ltb-false}
use lib.Dec.{eqb, ltb}
use Rattle.std.specs.Prelude.{None, Some}
use Rattle.guideline.specs.Bytes.{cell}
use Rattle.cells.specs.declared.Tally.{Tally}
use Rattle.cells.specs.Tally.{tallied, Tallying}
use Rattle.cells.proofs.Tallied.{tallying_hit, tallying_miss, tallying_skip, tallying_all}
use Rattle.keys.specs.Keys.{Next}
use Rattle.cells.specs.declared.row.TableRow.{Ghosts}
use Rattle.keys.specs.declared.rows.KeyRows.{KeyRows}
use Rattle.keys.specs.Hits.{Missed, First}
use Rattle.keys.specs.Rows.{row_of, hit_of}

module _ {A : Type 0} {R : Ghosts A} (r : KeyRows A R) (place : ℕ) (reads_key : (k : ℕ) (f : ℕ → ℕ) → R.keyed k (R.read f) ≡ eqb (f place) k) (p : A → Bool) where
  abbrev h : ℕ → Bool
  h = hit_of r p

  abbrev number_at : ℕ → ℕ
  number_at i = cell r.bytes.now r.view i place

  other_key : (i : ℕ) → (number_at i ≡ r.key → ⊥) → h i ≡ false
  other_key i other = rw (reads_key r.key (cell r.bytes.now r.view i), ne_eqb (number_at i) r.key other)

  this_key : (i : ℕ) → number_at i ≡ r.key → h i ≡ p (row_of r i)
  this_key i same = rw (reads_key r.key (cell r.bytes.now r.view i), eq-eqb (number_at i) r.key same)

  -- the row that comes next has the property or not
  module _ {from i count last : ℕ} (t : Tallying h r.view.rows from count last) (next : Next number_at r.view.rows r.key from (Some i)) where
    here : Tallying h r.view.rows i count last
    here = tallying_skip h i t next.0 (omega (arith, next.1)) (λ m above below. other_key m (next.2 m above below))

    pub hit_tallied : p (row_of r i) ≡ true → Tallying h r.view.rows (i + 1) (count + 1) i
    hit_tallied e = tallying_hit h here next.1 (this_key i next.3 ∙ e)

    pub miss_tallied : p (row_of r i) ≡ false → Tallying h r.view.rows (i + 1) count last
    miss_tallied e = tallying_miss h here next.1 (this_key i next.3 ∙ e)

  -- none comes any more
  pub all_tallied : {from count last : ℕ} → Tallying h r.view.rows from count last → Next number_at r.view.rows r.key from None → ◌≡◌ {A = Tally} (record { count = count; last = last }) (tallied h r.view.rows)
  all_tallied {from} t none =
      tallying_all h (tallying_skip h r.view.rows t t.0 (omega arith) (λ m above below. other_key m (none m above below))) (omega arith)

  -- the same, where no row had it so far
  module _ {from : ℕ} (missed : Missed h from) where
    pub missed_to : (i : ℕ) → ((m : ℕ) → from ≤ m → m < i → number_at m ≡ r.key → ⊥) → Missed h i
    missed_to i without m below = go (ltb m from) (ltb-true m from) (ltb-false m from)
      where
        go : (t : Bool) → (t ≡ true → m < from) → (t ≡ false → from ≤ m) → h m ≡ false
        go true less more = missed m (less refl)
        go false less more = other_key m (without m (more refl) below)

    module _ {i : ℕ} (next : Next number_at r.view.rows r.key from (Some i)) where
      pub first_hit : p (row_of r i) ≡ true → First h r.view.rows (Some i)
      first_hit e = (next.1, missed_to i next.2, this_key i next.3 ∙ e)

      pub missed_on : p (row_of r i) ≡ false → Missed h (i + 1)
      missed_on e m below =
          ⊎_elim (λ same. rw same (this_key i next.3 ∙ e)) (λ less. missed_to i next.2 m less) (eq-or-lt_of_le {n = m} {m = i} (omega arith))
