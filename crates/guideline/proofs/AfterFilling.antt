-- The entry after filling by table 70 (P5): it keeps whatever was given (`keeps`); a datum that it still lacks may be entered before the filling or after it
-- (`fill_commutes`).
use Prim.Native.Nat.{ℕ}
use mathlib.Core.Path.{◌≡◌, refl, sym, ◌∙◌, ap, subst}
use mathlib.Core.Bool.{Bool, true, false, cond, ◌&&◌, and-false}
use native.Mathlib.Omega.{arith}
use lib.Dec.{eqb}
use borrow.Author.Tests.{eqb-true}
use Rattle.guideline.specs.Types.{Datum, Age, Sex, Hpk, Prk, Weight, Surface, Value, Blank, Given, Entry, T070, Reached}
use Rattle.guideline.specs.Values.{no_gpk}
use Rattle.guideline.specs.Ask.{Outcome, Chosen, Refused, after, chosen_or}
use Rattle.guideline.specs.Table.{Hits, None, One, Many}
use Rattle.guideline.specs.Rows.{Row, Tables}
use Rattle.guideline.specs.Entries.{datum, permitted, in_range, with_gpk}
use Rattle.guideline.specs.Filling.{same_prk, same_gpk, agrees, prk_filled, gpk_filled, filled_by}
use Rattle.guideline.specs.Check.{up_to_step_2, after_filling}
use Rattle.guideline.proofs.Fill.{fill, range_fill}
use Rattle.guideline.proofs.BeforeStep2.{step_1, hpk_rows, one_filled, filled, comes_to, Alike, OneRow, Treated, alike}

-- a given value is not blank
given_not_blank : {n : ℕ} {v : Value} → v ≡ Given n → v ≡ Blank → ⊥
given_not_blank {n} {v} g b = let z : ◌≡◌ {A = ℕ} 0 1 = cc in omega arith

-- the entry with which step 2 goes on, if it does, is as it was, or the one row of its HPK, with which it agrees, has filled it
pub of_step_2 : (t : Tables) (e : Entry) (P : Entry → Type 0) → P e → ((r : Row T070) → OneRow t e r → agrees r e ≡ true → P (filled_by r e)) → P (chosen_or e (up_to_step_2 t e))
of_step_2 t e P itself by_row = rw (comes_to t e) (of_step_1 (step_1 t) refl)
  where
    of_one : (r : Row T070) (s : Bool) → (s ≡ true → P (filled_by r e)) → P (chosen_or e (one_filled s (filled_by r e)))
    of_one r true h = h refl
    of_one r false h = itself

    of_rows : (b : Bool) → step_1 t ≡ Chosen b → (x : Hits (Row T070)) → hpk_rows t e ≡ x → P (chosen_or e (filled x e))
    of_rows b p None q = itself
    of_rows b p (One r) q = of_one r (agrees r e) (by_row r (record { test = b; passed = p; row = q }))
    of_rows b p (Many n) q = itself

    of_step_1 : (o : Outcome Reached Bool) → step_1 t ≡ o → P (chosen_or e (after o (λ _. filled (hpk_rows t e) e)))
    of_step_1 (Chosen b) p = of_rows b p (hpk_rows t e) refl
    of_step_1 (Refused r g) p = itself

-- so is the entry after filling
pub of_after_filling : (t : Tables) (e : Entry) (P : Entry → Type 0) → P e → ((r : Row T070) → OneRow t e r → agrees r e ≡ true → P (filled_by r e)) → P (after_filling t e)
unfolding after_filling
of_after_filling t e P itself by_row = go (in_range e)
  where
    go : (s : Bool) → P (cond s (chosen_or e (up_to_step_2 t e)) e)
    go true = of_step_2 t e P itself by_row
    go false = itself

-- where it agrees with that row, the row has filled it
pub filled_by_row : (t : Tables) (e : Entry) (r : Row T070) → OneRow t e r → agrees r e ≡ true → up_to_step_2 t e ≡ Chosen (filled_by r e)
filled_by_row t e r o a = comes_to t e ∙ rw (o.passed, o.row, a) refl

after_row : (t : Tables) (e : Entry) (r : Row T070) → in_range e ≡ true → OneRow t e r → agrees r e ≡ true → after_filling t e ≡ filled_by r e
unfolding after_filling
after_row t e r i o a = rw i (ap (chosen_or e) (filled_by_row t e r o a))

-- f is e as filled: what e gives stays, no datum but the PRK changes, and no number but a GPK of 0
pub record Keeps (e f : Entry) : Type 0 where
  pub given : (x : Datum) (n : ℕ) → datum e.known x ≡ Given n → datum f.known x ≡ Given n
  pub others : (x : Datum) → (x ≡ Prk → ⊥) → datum f.known x ≡ datum e.known x
  pub gpk : (e.rest.gpk ≡ no_gpk → ⊥) → f.rest.gpk ≡ e.rest.gpk
  pub rest : f.rest ≡ with_gpk f.rest.gpk e.rest

keeps_itself : (e : Entry) → Keeps e e
keeps_itself e = record { given = λ x n h. h; others = λ x h. refl; gpk = λ h. refl; rest = refl }

keeps_filled : (r : Row T070) (e : Entry) → Keeps e (filled_by r e)
unfolding filled_by prk_filled gpk_filled
keeps_filled r e = record { given = given; others = others; gpk = of_gpk (eqb e.rest.gpk no_gpk) refl; rest = refl }
  where
    of_prk : (v : Value) (n : ℕ) → v ≡ Given n → prk_filled r v ≡ Given n
    of_prk Blank n h = absurd (given_not_blank h refl)
    of_prk (Given m) n h = h

    given : (x : Datum) (n : ℕ) → datum e.known x ≡ Given n → datum (filled_by r e).known x ≡ Given n
    given Age n h = h
    given Sex n h = h
    given Hpk n h = h
    given Prk n h = of_prk e.known.prk n h
    given Weight n h = h
    given Surface n h = h

    others : (x : Datum) → (x ≡ Prk → ⊥) → datum (filled_by r e).known x ≡ datum e.known x
    others Age h = refl
    others Sex h = refl
    others Hpk h = refl
    others Prk h = absurd (h refl)
    others Weight h = refl
    others Surface h = refl

    of_gpk : (s : Bool) → eqb e.rest.gpk no_gpk ≡ s → (e.rest.gpk ≡ no_gpk → ⊥) → cond s r.gpkode e.rest.gpk ≡ e.rest.gpk
    of_gpk true h k = absurd (k (eqb-true e.rest.gpk no_gpk h))
    of_gpk false h k = refl

pub keeps_step_2 : (t : Tables) (e : Entry) → Keeps e (chosen_or e (up_to_step_2 t e))
keeps_step_2 t e = of_step_2 t e (Keeps e) (keeps_itself e) (λ r o a. keeps_filled r e)

-- "filling by table 70 never changes a number that was given"
pub keeps : (t : Tables) (e : Entry) → Keeps e (after_filling t e)
keeps t e = of_after_filling t e (Keeps e) (keeps_itself e) (λ r o a. keeps_filled r e)

-- what is blank after filling was blank before
pub blank_before : (t : Tables) (e : Entry) (x : Datum) → datum (after_filling t e).known x ≡ Blank → datum e.known x ≡ Blank
blank_before t e x b = go (datum e.known x) refl
  where
    go : (v : Value) → datum e.known x ≡ v → v ≡ Blank
    go Blank h = refl
    go (Given n) h = absurd (given_not_blank ((keeps t e).given x n h) b)

-- a row with which the entry agrees leaves no blank PRK
prk_given : (r : Row T070) (v : Value) → prk_filled r v ≡ Blank → ⊥
unfolding prk_filled
prk_given r Blank h = given_not_blank refl h
prk_given r (Given n) h = given_not_blank refl h

pub blank_prk : (t : Tables) (e : Entry) (r : Row T070) → in_range e ≡ true → OneRow t e r → agrees r e ≡ true → (after_filling t e).known.prk ≡ Blank → ⊥
unfolding filled_by
blank_prk t e r i o a b = prk_given r e.known.prk (sym (ap (λ (f : Entry). f.known.prk) (after_row t e r i o a)) ∙ b)

-- with a blank PRK only the GPK can differ from the row
pub differs_by_gpk : (r : Row T070) (e e' : Entry) → e.known.prk ≡ Blank → e'.rest ≡ e.rest → agrees r e ≡ false → agrees r e' ≡ false
unfolding agrees same_prk
differs_by_gpk r e e' b k h =
    let g : same_gpk r e.rest.gpk ≡ false = subst (λ (v : Value). (same_prk r v && same_gpk r e.rest.gpk) ≡ false) b h in
    ap (λ (n : ℕ). same_prk r e'.known.prk && same_gpk r n) (ap (λ p. p.gpk) k) ∙ rw g (and-false (same_prk r e'.known.prk))

-- table 70 treats an entry with a datum that it does not fill like the entry without it
abbrev pub Filled : Datum → ℕ → Entry → Entry → Type 0
Filled x n f f' = f' ≡ fill x n f

module _ (t : Tables) (e : Entry) (n : ℕ) (i : in_range e ≡ true) where
  with_prk_treated : (after_filling t e).known.prk ≡ Blank → Treated t (Filled Prk n) e (fill Prk n e)
  unfolding fill
  with_prk_treated b =
      record {
        hpk = refl;
        as_they_are = refl;
        agree = λ r o. go r o (agrees r e) refl;
        as_filled = λ r o a. absurd (blank_prk t e r i o a b);
      }
    where
      go : (r : Row T070) → OneRow t e r → (s : Bool) → agrees r e ≡ s → agrees r (fill Prk n e) ≡ s
      go r o true a = absurd (blank_prk t e r i o a b)
      go r o false a = differs_by_gpk r e (fill Prk n e) (blank_before t e Prk b) refl a

  treated_fill : (x : Datum) → (x ≡ Hpk → ⊥) → datum (after_filling t e).known x ≡ Blank → Treated t (Filled x n) e (fill x n e)
  unfolding fill agrees filled_by
  treated_fill Age h b = record { hpk = refl; as_they_are = refl; agree = λ r o. refl; as_filled = λ r o a. refl }
  treated_fill Sex h b = record { hpk = refl; as_they_are = refl; agree = λ r o. refl; as_filled = λ r o a. refl }
  treated_fill Hpk h b = absurd (h refl)
  treated_fill Prk h b = with_prk_treated b
  treated_fill Weight h b = record { hpk = refl; as_they_are = refl; agree = λ r o. refl; as_filled = λ r o a. refl }
  treated_fill Surface h b = record { hpk = refl; as_they_are = refl; agree = λ r o. refl; as_filled = λ r o a. refl }

  pub fill_alike : (x : Datum) → (x ≡ Hpk → ⊥) → datum (after_filling t e).known x ≡ Blank → Alike (Filled x n) (up_to_step_2 t e) (up_to_step_2 t (fill x n e))
  fill_alike x h b = alike t (Filled x n) e (fill x n e) (treated_fill x h b)

-- a datum that is blank after filling: entered before it or after it
pub fill_commutes : (t : Tables) (e : Entry) (x : Datum) (n : ℕ) → (x ≡ Hpk → ⊥) → datum (after_filling t e).known x ≡ Blank → permitted x n ≡ true → after_filling t (fill x n e) ≡ fill x n (after_filling t e)
unfolding after_filling
fill_commutes t e x n h b p = go (in_range e) refl
  where
    of_outcomes : (o o' : Outcome Reached Entry) → Alike (Filled x n) o o' → chosen_or (fill x n e) o' ≡ fill x n (chosen_or e o)
    of_outcomes (Chosen f) (Chosen f') a = a
    of_outcomes (Chosen f) (Refused r g) a = absurd a
    of_outcomes (Refused r g) (Chosen f') a = absurd a
    of_outcomes (Refused r g) (Refused r' g') a = refl

    same_range : in_range (fill x n e) ≡ in_range e
    same_range = range_fill x n e (blank_before t e x b) p

    go : (s : Bool) → in_range e ≡ s → after_filling t (fill x n e) ≡ fill x n (after_filling t e)
    go true i = rw (same_range, i) (of_outcomes (up_to_step_2 t e) (up_to_step_2 t (fill x n e)) (fill_alike t e n i x h b))
    go false i = rw (same_range, i) refl
