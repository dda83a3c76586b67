-- P5: "Demand 3 then speaks of the entry after this filling." That entry gets the answer that the entry as entered gets (`filled_entry_same`); and so both
-- halves of demand 3 hold of it (`complete_same_after_filling`, `missing_later_after_filling`), for all tables as lists of rows and all lent bytes.
use Prim.Native.Nat.{ℕ, ◌<◌}
use mathlib.Core.Path.{◌≡◌, refl, sym, ◌∙◌, ap, ap₂}
use mathlib.Core.Bool.{Bool, true, false, cond, ◌&&◌, ◌||◌, false≢true}
use native.Mathlib.Omega.{arith}
use lib.Dec.{eqb, leb, leb-zero}
use borrow.Author.Tests.{eqb-true, eq-eqb}
use Rattle.guideline.specs.Types.{Datum, Hpk, Prk, Value, Blank, Given, Prescription, Entry, Answer, TableName, T070, Reached}
use Rattle.guideline.specs.Values.{within, codes, codes_from_1, counts_of_070, no_gpk}
use Rattle.guideline.specs.Ask.{Outcome, Chosen, Refused, run, after, no_data}
use Rattle.guideline.specs.Table.{One}
use Rattle.guideline.specs.Rows.{Row, keyed, sound_row, width, Tables}
use Rattle.guideline.specs.Bytes.{whole_rows, rows_of, Lents, spelled}
use Rattle.guideline.specs.Entries.{datum, permitted, datum_in_range, setting_in_range, dose_in_range, units_in_range, prescription_in_range, in_range}
use Rattle.guideline.specs.Filling.{of_hpk, same_prk, same_gpk, agrees, prk_filled, gpk_filled, filled_by}
use Rattle.guideline.specs.Steps.{sound, nothing}
use Rattle.guideline.specs.Check.{up_to_step_2, after_filling, from_step_2, outcome, place_of, check}
use Rattle.guideline.proofs.Fill.{asking, fill}
use Rattle.guideline.proofs.Run.{where_reached, run_at}
use Rattle.guideline.proofs.Holds.{Any, Comes, run_holds}
use Rattle.guideline.proofs.Gives.{gives_table}
use Rattle.guideline.proofs.Shuffle.{Rows, tables}
use Rattle.guideline.proofs.Filled.{Passed, sound_passed}
use Rattle.guideline.proofs.BeforeStep2.{step_1, OneRow}
use Rattle.guideline.proofs.AfterFilling.{of_after_filling, filled_by_row, keeps, fill_commutes}
use Rattle.guideline.proofs.InEdition.{same_check}
use Rattle.guideline.proofs.Same.{unless_125, BlankAfterFilling, Asking, complete_same}
use Rattle.guideline.proofs.Later.{missing_later}

-- what a row has filled, it fills no further, and agrees with
prk_filled_twice : (r : Row T070) (v : Value) → prk_filled r (prk_filled r v) ≡ prk_filled r v
unfolding prk_filled
prk_filled_twice r Blank = refl
prk_filled_twice r (Given n) = refl

gpk_filled_twice : (r : Row T070) (n : ℕ) → gpk_filled r (gpk_filled r n) ≡ gpk_filled r n
unfolding gpk_filled
gpk_filled_twice r n = go (eqb n no_gpk) refl
  where
    either : (s : Bool) → cond s r.gpkode r.gpkode ≡ r.gpkode
    either true = refl
    either false = refl

    go : (s : Bool) → eqb n no_gpk ≡ s → cond (eqb (cond s r.gpkode n) no_gpk) r.gpkode (cond s r.gpkode n) ≡ cond s r.gpkode n
    go true h = either (eqb r.gpkode no_gpk)
    go false h = ap (λ (s : Bool). cond s r.gpkode n) h

filled_twice : (r : Row T070) (e : Entry) → filled_by r (filled_by r e) ≡ filled_by r e
unfolding filled_by
filled_twice r e = rw (prk_filled_twice r e.known.prk, gpk_filled_twice r e.rest.gpk) refl

agrees_filled : (r : Row T070) (e : Entry) → agrees r e ≡ true → agrees r (filled_by r e) ≡ true
unfolding agrees same_prk same_gpk filled_by prk_filled gpk_filled
agrees_filled r e h = go e.known.prk (eqb e.rest.gpk no_gpk) refl h
  where
    itself : (n : ℕ) → eqb n n ≡ true
    itself n = eq-eqb n n refl

    or_true : (s : Bool) → (s || true) ≡ true
    or_true true = refl
    or_true false = refl

    go : (v : Value) (s : Bool) → eqb e.rest.gpk no_gpk ≡ s → (same_prk r v && (s || eqb e.rest.gpk r.gpkode)) ≡ true → (same_prk r (prk_filled r v) && (eqb (cond s r.gpkode e.rest.gpk) no_gpk || eqb (cond s r.gpkode e.rest.gpk) r.gpkode)) ≡ true
    go Blank true g k = rw (itself r.prkode, itself r.gpkode) (or_true (eqb r.gpkode no_gpk))
    go Blank false g k = rw (itself r.prkode, g) k
    go (Given n) true g k = rw (itself r.gpkode, or_true (eqb r.gpkode no_gpk)) k
    go (Given n) false g k = rw g k

-- a row that passed 122 fills only numbers that are in range
second : (a b : Bool) → (a && b) ≡ true → b ≡ true
second true b h = h
second false b h = absurd (false≢true h)

first : (a b : Bool) → (a && b) ≡ true → a ≡ true
first true b h = refl
first false b h = absurd (false≢true h)

module _ (r : Row T070) (passes-122 : sound_row T070 r ≡ true) where
  prk_in_range : within codes_from_1 r.prkode ≡ true
  unfolding sound_row
  prk_in_range = first _ _ (second (within codes_from_1 r.hpkode) _ passes-122)

  gpk_in_range : within codes_from_1 r.gpkode ≡ true
  unfolding sound_row
  gpk_in_range = first _ _ (second (within counts_of_070 r.hpanpr) _ (second (within codes_from_1 r.prkode) _ (second (within codes_from_1 r.hpkode) _ passes-122)))

  prk_filled_in_range : (v : Value) → datum_in_range Prk (prk_filled r v) ≡ datum_in_range Prk v
  unfolding prk_filled permitted
  prk_filled_in_range Blank = prk_in_range
  prk_filled_in_range (Given n) = refl

  gpk_filled_in_range : (n : ℕ) → within codes (gpk_filled r n) ≡ within codes n
  unfolding gpk_filled
  gpk_filled_in_range n = go (eqb n no_gpk) refl
    where
      go : (s : Bool) → eqb n no_gpk ≡ s → within codes (cond s r.gpkode n) ≡ within codes n
      go true h =
          rw (eqb-true n no_gpk h, leb-zero r.gpkode) (second (leb 1 r.gpkode) _ gpk_in_range)
      go false h = refl

  pub filled_in_range : (e : Entry) → in_range (filled_by r e) ≡ in_range e
  unfolding in_range prescription_in_range setting_in_range dose_in_range units_in_range filled_by
  filled_in_range e = rw (prk_filled_in_range e.known.prk, gpk_filled_in_range e.rest.gpk) refl

-- table 70 fills no edition
edition_stays : (t : Tables) (e : Entry) → (after_filling t e).rest.edition ≡ e.rest.edition
edition_stays t e = ap (λ (p : Prescription). p.edition) (keeps t e).rest

-- tables by their rows
module _ (w : TableName → Bool) (l : Rows) (e : Entry) where
  abbrev t : Tables
  t = tables w l

  passed_step_1 : (b : Bool) → step_1 t ≡ Chosen b → Passed t
  passed_step_1 b h = go (run no_data (sound t)) (sym (run_at no_data nothing (sound t)) ∙ h) (run_holds Any (λ (_ : Bool). Passed t) no_data (sound_passed t))
    where
      go : (o : Outcome (Unit {0}) Bool) → where_reached nothing o ≡ Chosen b → Comes Any (λ (_ : Bool). Passed t) o → Passed t
      go (Chosen c) k p = p
      go (Refused r g) k p = absurd (let z : ◌≡◌ {A = ℕ} 0 1 = cc in omega arith)

  row_passes_122 : (r : Row T070) → OneRow t e r → sound_row T070 r ≡ true
  unfolding of_hpk
  row_passes_122 r o = go e.known.hpk o.row
    where
      go : (v : Value) → of_hpk (t.rows T070) v ≡ One r → sound_row T070 r ≡ true
      go Blank h = absurd (let z : ◌≡◌ {A = ℕ} 0 1 = cc in omega arith)
      go (Given hpk) h = gives_table (sound_row T070) (l T070) (passed_step_1 o.test o.passed T070) (keyed T070 hpk) r h

  abbrev Settled : Entry → Type 0
  Settled f = (up_to_step_2 t f ≡ up_to_step_2 t e) × (in_range f ≡ in_range e)

  -- the row is found again, agrees, and fills nothing more
  settled_by_row : (r : Row T070) → OneRow t e r → agrees r e ≡ true → Settled (filled_by r e)
  unfolding filled_by
  settled_by_row r o a = (
    filled_by_row t (filled_by r e) r (record { test = o.test; passed = o.passed; row = o.row }) (agrees_filled r e a)
        ∙ ap Chosen (filled_twice r e)
        ∙ sym (filled_by_row t e r o a),
    filled_in_range r (row_passes_122 r o) e,
  )

  settled : Settled (after_filling t e)
  settled = of_after_filling t e Settled (refl, refl) settled_by_row

  pub outcome_after_filling : outcome t (after_filling t e) ≡ outcome t e
  unfolding outcome
  outcome_after_filling = ap₂ (λ (s : Bool) (o : Outcome Reached Entry). unless_125 s (after o (from_step_2 t))) settled.1 settled.0

  -- the same answer, all numbers
  pub filled_entry_same : check t (after_filling t e) ≡ check t e
  filled_entry_same = same_check t e (after_filling t e) (edition_stays t e) outcome_after_filling

-- demand 3 of the entry after filling
abbrev pub SameAfterFilling : Tables → Entry → Type 0
SameAfterFilling t e =
    (Asking t e → ⊥) → (x : Datum) (n : ℕ) → BlankAfterFilling t e x → permitted x n ≡ true → check t (fill x n (after_filling t e)) ≡ check t (after_filling t e)

abbrev pub LaterAfterFilling : Tables → Entry → Type 0
LaterAfterFilling t e =
    Asking t e
    → (x : Datum)
    × ((check t (after_filling t e)).answer ≡ asking x)
    × (datum (after_filling t e).known x ≡ Blank)
    × ((x ≡ Hpk → ⊥) → (n : ℕ) → permitted x n ≡ true → place_of (outcome t (after_filling t e)) < place_of (outcome t (fill x n (after_filling t e))))

module _ (w : TableName → Bool) (l : Rows) (e : Entry) where
  -- a blank filled after the filling or before it
  outcome_filled_after : (x : Datum) (n : ℕ) → BlankAfterFilling (tables w l) e x → permitted x n ≡ true → outcome (tables w l) (fill x n (after_filling (tables w l) e)) ≡ outcome (tables w l) (fill x n e)
  outcome_filled_after x n b k =
      ap (outcome (tables w l)) (sym (fill_commutes (tables w l) e x n b.not_hpk b.blank k)) ∙ outcome_after_filling w l (fill x n e)

  pub complete_same_after_filling : SameAfterFilling (tables w l) e
  unfolding fill
  complete_same_after_filling h x n b k =
      same_check (tables w l) (fill x n e) (fill x n (after_filling (tables w l) e)) (edition_stays (tables w l) e) (outcome_filled_after x n b k)
      ∙ complete_same (tables w l) e h x n b k ∙ sym (filled_entry_same w l e)

  pub missing_later_after_filling : LaterAfterFilling (tables w l) e
  missing_later_after_filling h =
      let m = missing_later (tables w l) e h in (
        m.0,
        ap (λ (a : Answer). a.answer) (filled_entry_same w l e) ∙ m.1,
        m.2.0,
        λ other n k. rw (outcome_after_filling w l e, outcome_filled_after m.0 n (record { not_hpk = other; blank = m.2.0 }) k) (m.2.1 other n k),
      )

-- of the lent bytes
module _ (b : Lents) (e : Entry) where
  pub filled_entry_same_bytes : check (spelled b) (after_filling (spelled b) e) ≡ check (spelled b) e
  unfolding spelled
  filled_entry_same_bytes = filled_entry_same (λ n. whole_rows (width n) (b n)) (λ n. rows_of n (b n)) e

  pub complete_same_bytes : SameAfterFilling (spelled b) e
  unfolding spelled
  complete_same_bytes = complete_same_after_filling (λ n. whole_rows (width n) (b n)) (λ n. rows_of n (b n)) e

  pub missing_later_bytes : LaterAfterFilling (spelled b) e
  unfolding spelled
  missing_later_bytes = missing_later_after_filling (λ n. whole_rows (width n) (b n)) (λ n. rows_of n (b n)) e
