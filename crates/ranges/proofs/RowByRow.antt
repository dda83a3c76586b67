-- Rows that are tested one by one: one that is out of range is found, or all are tested. Assumes nothing.
use Prim.Native.Nat.{ℕ, ◌+◌, ◌<◌, ◌≤◌}
use mathlib.Core.Path.{◌≡◌, ap}
use mathlib.Core.Bool.{Bool, true, false, not}
use mathlib.Core.List.{List}
use Rattle.std.specs.Prelude.{None, Some}
use Rattle.guideline.specs.declared.view.View.{View}
use Rattle.guideline.specs.Bytes.{cell}
use Rattle.guideline.specs.Table.{all_rows}
use Rattle.cells.specs.Lents.{shown_by}
use Rattle.cells.proofs.Tallied.{tallying_none, tallying_miss}
use Rattle.cells.proofs.Lents.{rows_found, rows_missed}
use Rattle.keys.specs.Keys.{key_of}
use Rattle.keys.specs.Rising.{rises}
use Rattle.ranges.specs.Soundly.{InRangeBy, tested_by}

module _ {A : Type 0} (sound : A → Bool) (read : (ℕ → ℕ) → A) (l : List ℕ) (v : View) where
  abbrev row : ℕ → A
  row i = read (cell l v i)

  pub found_unsound : (i : ℕ) → i < v.rows → sound (row i) ≡ false → all_rows sound (shown_by read l v) ≡ false
  found_unsound i below e = ap not (rows_found read l v (λ r. not (sound r)) i below (ap not e))

  pub all_sound : {i : ℕ} → InRangeBy sound read l v i → v.rows ≤ i → all_rows sound (shown_by read l v) ≡ true
  all_sound none all = ap not (rows_missed read l v (λ r. not (sound r)) none all)

  -- a row more
  pub none_tested : InRangeBy sound read l v 0
  none_tested = tallying_none (λ i. not (sound (row i))) v.rows

  pub one_tested : {i : ℕ} → InRangeBy sound read l v i → i < v.rows → sound (row i) ≡ true → InRangeBy sound read l v (i + 1)
  one_tested k below e = tallying_miss (λ i. not (sound (row i))) k below (ap not e)

  -- what the pass over the rows comes to
  module _ (k : ℕ) where
    pub tested_out : all_rows sound (shown_by read l v) ≡ false → None ≡ tested_by sound read k l v
    unfolding tested_by
    tested_out e = rw e

    pub tested_in : {b : Bool} → all_rows sound (shown_by read l v) ≡ true → rises (key_of l v k) v.rows ≡ b → Some (record { rising = b }) ≡ tested_by sound read k l v
    unfolding tested_by
    tested_in e rise = rw (e, rise)
