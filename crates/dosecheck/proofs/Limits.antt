-- The limits that are selected are a row of table 649, so that they are in range where the table is; and what was selected has the ratio that it
-- was selected with. Assumes nothing.
use Prim.Native.Nat.{ℕ}
use mathlib.Core.Path.{◌≡◌, refl}
use native.Mathlib.Omega.{arith}
use Rattle.guideline.specs.declared.answer.Reached.{Reached}
use Rattle.guideline.specs.declared.context.Ratio.{Ratio}
use Rattle.guideline.specs.declared.context.Selected.{Selected}
use Rattle.guideline.specs.declared.entries.Datum.{Datum}
use Rattle.guideline.specs.declared.entries.Prescription.{Prescription}
use Rattle.guideline.specs.Types.{Value}
use Rattle.guideline.specs.declared.refusals.Ending.TheVariants.{LimitsAbsent, LimitsSeveral}
use Rattle.guideline.specs.declared.rows.Row649.{Row649}
use Rattle.guideline.specs.declared.rows.TableName.TheVariants.{T649}
use Rattle.guideline.specs.Ask.{Plan, Done, at, Outcome, Chosen, Refused, run, ◌>>=◌}
use Rattle.guideline.specs.Table.{Table, Hits, None, One, Many}
use Rattle.guideline.specs.Rows.{keyed, Tables}
use Rattle.guideline.specs.Forms.{refuse, one, choose}
use Rattle.guideline.specs.Steps.{limits_of, selection}
use Rattle.guideline.proofs.Gives.{Gives}
use Rattle.guideline.proofs.Holds.{Holds, holds_done, holds_stop, holds_all, holds_bind, run_holds, Any, Comes}

limits_hold : (Q : Row649 → Type 0) (t : Table Row649) (g : Reached) (rule : ℕ) → Gives Q t → Holds Any Q (at g (limits_of t rule))
unfolding limits_of one choose refuse at
limits_hold Q t g rule h = go (t (keyed T649 rule)) refl
  where
    go : (x : Hits Row649) → t (keyed T649 rule) ≡ x → Holds Any Q (at g (choose x (refuse LimitsAbsent) (λ a. Done a) (refuse LimitsSeveral)))
    go None e = holds_stop tt
    go (One a) e = holds_done (h (keyed T649 rule) a e)
    go (Many n) e = holds_stop tt

whatever : {A B : Type 0} {Q : B → Type 0} {f : A → Plan Reached B} (p : Plan Reached A) → ((a : A) → Holds Any Q (f a)) → Holds Any Q (p >>= f)
whatever {A} p h = holds_bind (holds_all Any (λ (_ : A). Unit {0}) p (λ r g. tt) (λ a. tt)) (λ a _. h a)

module _ (Q : Row649 → Type 0) (t : Tables) (p : Prescription) (q : Ratio) (given : Gives Q (t.rows T649)) where
  abbrev Kept : Selected → Type 0
  Kept s = Q s.limits × (s.context.ratio ≡ q)

  selected_hold : Holds Any Kept (selection t p q)
  unfolding selection
  selected_hold =
      whatever _ (λ r. whatever _ (λ age. whatever _ (λ l. whatever _ (λ s. whatever _ (λ x.
      holds_bind (limits_hold Q (t.rows T649) _ x.gpddnr given) (λ m k. holds_done (k, refl)))))))

  chosen_kept : (o : Outcome Reached Selected) {s : Selected} → Comes Any Kept o → o ≡ Chosen s → Kept s
  chosen_kept (Chosen r) {s} k e = let z : r ≡ s = cc in rw (← z) k
  chosen_kept (Refused r g) k e = absurd (let z : ◌≡◌ {A = ℕ} 0 1 = cc in let y : ⊥ = omega arith in y)

  pub selected_kept : (d : Datum → Value) {s : Selected} → run d (selection t p q) ≡ Chosen s → Kept s
  selected_kept d e = chosen_kept (run d (selection t p q)) (run_holds Any Kept d selected_hold) e
