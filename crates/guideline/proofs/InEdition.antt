-- What an edition does to an answer (P7). One in which none of 115, 116 and 117 stands is the same in both editions (`unchanged`); an answer asks for a datum in
-- both or in neither (`asking_kept`, `asking_before`).
use Prim.Native.Nat.{ℕ, ◌≤◌}
use mathlib.Core.Path.{◌≡◌, refl, ap₂}
use mathlib.Core.Bool.{Bool, true, false, cond, ◌&&◌}
use native.Mathlib.Omega.{arith}
use lib.Dec.{eqb, leb, leb→le}
use Rattle.guideline.specs.Types.{Entry, Answer, Reached}
use Rattle.guideline.specs.Values.{former}
use Rattle.guideline.specs.Ask.{Outcome}
use Rattle.guideline.specs.Rows.{Tables}
use Rattle.guideline.specs.Edition.{signals, missing_frequency, former_signal, former_text, in_former, in_edition}
use Rattle.guideline.specs.Steps.{Verdict}
use Rattle.guideline.specs.Check.{outcome, answer, check}

-- "Nothing else differs"
pub unchanged : (edition : ℕ) (a : Answer) → missing_frequency a.answer ≡ false → missing_frequency a.suppressed ≡ false → in_edition edition a ≡ a
unfolding in_edition in_former former_signal former_text
unchanged edition a h k = go (eqb edition former)
  where
    go : (s : Bool) → cond s (in_former a) a ≡ a
    go true = rw (h, k) refl
    go false = refl

-- 101 to 106 are none of the three
not_missing : (n : ℕ) → n ≤ 106 → missing_frequency n ≡ false
unfolding missing_frequency
not_missing n h = go (leb signals.low n) refl
  where
    go : (s : Bool) → leb signals.low n ≡ s → (s && leb n signals.high) ≡ false
    go true e = absurd (let k : signals.low ≤ n = leb→le signals.low n (rw e tt) in omega arith)
    go false e = refl

pub asking_kept : (edition : ℕ) (a : Answer) → a.answer ≤ 106 → (in_edition edition a).answer ≡ a.answer
unfolding in_edition in_former former_signal
asking_kept edition a h = go (eqb edition former)
  where
    go : (s : Bool) → (cond s (in_former a) a).answer ≡ a.answer
    go true = rw (not_missing a.answer h) refl
    go false = refl

pub asking_before : (edition : ℕ) (a : Answer) → (in_edition edition a).answer ≤ 106 → (in_edition edition a).answer ≡ a.answer
unfolding in_edition in_former former_signal
asking_before edition a = go (eqb edition former)
  where
    of_former : (m : Bool) → cond m 117 a.answer ≤ 106 → cond m 117 a.answer ≡ a.answer
    of_former true h = absurd (omega arith)
    of_former false h = refl

    go : (s : Bool) → (cond s (in_former a) a).answer ≤ 106 → (cond s (in_former a) a).answer ≡ a.answer
    go true h = of_former (missing_frequency a.answer) h
    go false h = refl

pub none_suppressed : (edition : ℕ) (a : Answer) → a.suppressed ≡ 0 → (in_edition edition a).suppressed ≡ 0
unfolding in_edition in_former former_signal missing_frequency
none_suppressed edition a h = go (eqb edition former)
  where
    go : (s : Bool) → (cond s (in_former a) a).suppressed ≡ 0
    go true = rw h refl
    go false = h

-- the same outcome is the same answer, all numbers, within an edition
pub same_check : (t : Tables) (e e' : Entry) → e'.rest.edition ≡ e.rest.edition → outcome t e' ≡ outcome t e → check t e' ≡ check t e
unfolding check
same_check t e e' h k = ap₂ (λ (n : ℕ) (o : Outcome Reached Verdict). in_edition n (answer o)) h k
