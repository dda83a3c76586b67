-- Step 6: the rows of the basis that are kept are those of the setting that is kept. Assumes nothing.
use Prim.Native.Nat.{ℕ}
use mathlib.Core.Path.{◌≡◌, refl, sym, ◌∙◌, ap}
use mathlib.Core.Bool.{Bool, true, false, cond}
use lib.Dec.{eqb}
use Rattle.guideline.specs.declared.rows.Row642.{Row642}
use Rattle.guideline.specs.declared.rows.TableName.TheVariants.{T642}
use Rattle.guideline.specs.declared.setting.Setting.{Setting}
use Rattle.guideline.specs.Rows.{keyed}
use Rattle.guideline.specs.Table.{Table, some, among, every}
use Rattle.guideline.specs.Values.{intensive_care, no_reason, no_route}
use Rattle.guideline.specs.Steps.{of_care, of_reason, of_route, keep_care, keep_reason, keep_route}
use Rattle.tables.specs.Tests.{by_care, by_reason, by_route}
use Rattle.selection.specs.Kept.{in_all_care, for_whole_reason, for_Q_general, by_no_route, care_kept, reason_kept, route_kept}

module _ (t : Table Row642) where
  abbrev of_care_group : Setting → Table Row642
  of_care_group s = among (of_care s.care) t

  abbrev of_care_and_reason : Setting → Table Row642
  of_care_and_reason s = among (of_reason s.reason s.icpcto) (of_care_group s)

  care_rows : (s : Setting) → keep_care s.care t ≡ of_care_group (care_kept t s)
  unfolding keep_care care_kept
  care_rows s = go (eqb s.care intensive_care) (some (t (by_care s)))
    where
      go : (b c : Bool) → cond b (cond c (of_care_group s) (of_care_group (in_all_care s))) (of_care_group s) ≡ of_care_group (cond b (cond c s (in_all_care s)) s)
      go true true = refl
      go true false = refl
      go false c = refl

  reason_rows : (s : Setting) → keep_reason s.reason s.icpcto (of_care_group s) ≡ of_care_and_reason (reason_kept t s)
  unfolding keep_reason reason_kept
  reason_rows s = go (eqb s.reason no_reason) (some (t (by_reason s))) (some (t (by_reason (for_whole_reason s))))
    where
      R : Setting → Table Row642
      R = of_care_and_reason

      go : (a b c : Bool) → cond a (R (for_Q_general s)) (cond b (R s) (cond c (R (for_whole_reason s)) (R (for_Q_general s)))) ≡ R (cond a (for_Q_general s) (cond b s (cond c (for_whole_reason s) (for_Q_general s))))
      go true b c = refl
      go false true c = refl
      go false false true = refl
      go false false false = refl

  route_rows : (s : Setting) → keep_route s.route (of_care_and_reason s) every ≡ t (by_route (route_kept t s))
  unfolding keep_route route_kept
  route_rows s = go (some (t (by_route s)))
    where
      go : (b : Bool) → cond b (among (of_route s.route) (of_care_and_reason s)) (among (of_route no_route) (of_care_and_reason s)) every ≡ t (by_route (cond b s (by_no_route s)))
      go true = refl
      go false = refl

  -- the care group and the reason leave what comes after them as it was entered
  care_rest : (s : Setting) → ((care_kept t s).reason ≡ s.reason) × ((care_kept t s).icpcto ≡ s.icpcto) × ((care_kept t s).route ≡ s.route)
  unfolding care_kept
  care_rest s = go (eqb s.care intensive_care) (some (t (by_care s)))
    where
      go : (b c : Bool) → ((cond b (cond c s (in_all_care s)) s).reason ≡ s.reason) × ((cond b (cond c s (in_all_care s)) s).icpcto ≡ s.icpcto) × ((cond b (cond c s (in_all_care s)) s).route ≡ s.route)
      go true true = (refl, refl, refl)
      go true false = (refl, refl, refl)
      go false c = (refl, refl, refl)

  reason_rest : (s : Setting) → (reason_kept t s).route ≡ s.route
  unfolding reason_kept
  reason_rest s = go (eqb s.reason no_reason) (some (t (by_reason s))) (some (t (by_reason (for_whole_reason s))))
    where
      go : (a b c : Bool) → (cond a (for_Q_general s) (cond b s (cond c (for_whole_reason s) (for_Q_general s)))).route ≡ s.route
      go true b c = refl
      go false true c = refl
      go false false true = refl
      go false false false = refl

  kept_rows : (s : Setting) → keep_route s.route (keep_reason s.reason s.icpcto (keep_care s.care t)) every ≡ t (by_route (route_kept t (reason_kept t (care_kept t s))))
  kept_rows s =
      ap (λ (x : Table Row642). keep_route s.route (keep_reason s.reason s.icpcto x) every) (care_rows s)
      ∙ ap (λ (i : ℕ). keep_route s.route (keep_reason i s.icpcto (of_care_group c)) every) (sym (care_rest s).0)
      ∙ ap (λ (k : ℕ). keep_route s.route (keep_reason c.reason k (of_care_group c)) every) (sym (care_rest s).1)
      ∙ ap (λ (x : Table Row642). keep_route s.route x every) (reason_rows c)
      ∙ ap (λ (w : ℕ). keep_route w (of_care_and_reason r) every) (sym (care_rest s).2 ∙ sym (reason_rest c))
      ∙ route_rows r
    where
      c : Setting
      c = care_kept t s

      r : Setting
      r = reason_kept t c

-- the rows of the basis that are kept: what `one` is asked of
pub setting_rows : (t : Table Row642) (s : Setting) (basis : ℕ) → among (keyed T642 basis) t (by_route (route_kept (among (keyed T642 basis) t) (reason_kept (among (keyed T642 basis) t) (care_kept (among (keyed T642 basis) t) s)))) ≡ keep_route s.route (keep_reason s.reason s.icpcto (keep_care s.care (among (keyed T642 basis) t))) every
setting_rows t s basis = sym (kept_rows (among (keyed T642 basis) t) s)
