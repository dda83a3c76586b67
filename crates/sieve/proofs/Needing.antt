-- A plan that asks for what a measure has to fit runs as that is needed. Assumes nothing.
use Prim.Native.Nat.{ℕ}
use mathlib.Core.Path.{◌≡◌, refl, ap}
use mathlib.Core.Bool.{Bool, true, false}
use Rattle.std.specs.Prelude.{Result, Ok, Err}
use Rattle.guideline.specs.declared.entries.Datum.{Datum}
use Rattle.guideline.specs.Types.{Value, Blank, Given}
use Rattle.guideline.specs.declared.refusals.Question.{Question}
use Rattle.guideline.specs.declared.refusals.Refusal.TheVariants.{Asks}
use Rattle.guideline.specs.Ask.{asks_for, Done, Step, ◌>>=◌, Outcome, Chosen, Refused, run, feed}
use Rattle.guideline.specs.Forms.{when, ask}
use Rattle.sieve.specs.Needed.{needed}

module _ {A : Type 0} (d : Datum → Value) (question : Question) (unneeded : A) (next : ℕ → Step A) where
  abbrev pub on_need : Result Value Question → Outcome (Unit {0}) A
  on_need (Ok Blank) = Chosen unneeded
  on_need (Ok (Given x)) = run d (next x)
  on_need (Err q) = Refused (Asks q) tt

  pub run_needed : (matters : Bool) (x : Value) → d (asks_for question) ≡ x → run d (when matters (ask question >>= next) (Done unneeded)) ≡ on_need (needed question matters x)
  unfolding when ask ◌>>=◌
  run_needed false x e = refl
  run_needed true Blank e = ap (λ (y : Value). feed y (Refused (Asks question) tt) (λ n. run d (next n))) e
  run_needed true (Given n) e = ap (λ (y : Value). feed y (Refused (Asks question) tt) (λ n. run d (next n))) e
