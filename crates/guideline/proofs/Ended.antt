-- How a check goes on from a step in code, where something is reached: a `?` in its code is one of these. Assumes nothing.
use mathlib.Core.Path.{◌≡◌, refl, sym, ◌∙◌, ap}
use Rattle.std.specs.Prelude.{Result, Ok, Err}
use Rattle.guideline.specs.Types.{Datum, Value, Refusal, Reached, Stopped}
use Rattle.guideline.specs.Ask.{Plan, Step, ◌>>=◌, at, run}
use Rattle.guideline.specs.Results.{answered, stopped_at, answered_at, ended}
use Rattle.guideline.proofs.Run.{step_refused, step_chosen}
use Rattle.guideline.proofs.Answered.{chosen_of, refused_of}

module _ {A B : Type 0} (d : Datum → Value) (g : Reached) (p : Step A) (next : A → Plan Reached B) {r : Result A Refusal} (h : r ≡ answered (run d p)) where
  pub stops : {why : Refusal} → r ≡ Err why → Err (stopped_at g why) ≡ ended (run d (at g p >>= next))
  stops e = sym (ap ended (step_refused d g p next (refused_of (run d p) h e)))

  pub passes : {a : A} → r ≡ Ok a → ended (run d (next a)) ≡ ended (run d (at g p >>= next))
  passes e = sym (ap ended (step_chosen d g p next (chosen_of (run d p) h e)))

  -- by `Reached::at`
  pub stops_at : {m : Result A Stopped} {s : Stopped} → m ≡ answered_at g r → m ≡ Err s → Err s ≡ ended (run d (at g p >>= next))
  stops_at {m} {s} k e = go r refl k
    where
      go : (x : Result A Refusal) → r ≡ x → m ≡ answered_at g x → Err s ≡ ended (run d (at g p >>= next))
      go (Ok a) q j = absurd (cc)
      go (Err why) q j = let same : s ≡ stopped_at g why = cc in ap Err same ∙ stops q

  pub passes_at : {m : Result A Stopped} {a : A} → m ≡ answered_at g r → m ≡ Ok a → ended (run d (next a)) ≡ ended (run d (at g p >>= next))
  passes_at {m} {a} k e = go r refl k
    where
      go : (x : Result A Refusal) → r ≡ x → m ≡ answered_at g x → ended (run d (next a)) ≡ ended (run d (at g p >>= next))
      go (Ok b) q j = let same : b ≡ a = cc in passes (q ∙ ap Ok same)
      go (Err why) q j = absurd (cc)
