-- P4: "With the setting off the other eight numbers are as before." Below is the check without P4: step 9 ends with its signal, and 125 does not look at
-- quiet. With quiet off or not given the check answers what that does (`as_before`), and nothing is suppressed (`nothing_suppressed`).
use Prim.Native.Nat.{ℕ, suc, ◌≤◌, ◌<◌}
use mathlib.Core.Path.{◌≡◌, refl, sym, ◌∙◌, ap, ap₂, subst, fun_ext}
use mathlib.Core.Bool.{Bool, true, false, cond, not, ◌&&◌, ◌||◌}
use native.Mathlib.Nat.{le_refl, le_trans, le_of_lt}
use borrow.Author.Tests.{eqb-true}
use lib.Dec.{T, eqb, leb, ltb, lit≤, le→leb, lt→ltb}
use Rattle.guideline.specs.Types.{Switch, NotGiven, Position, Prescription, Entry, Answer, T640, T641, T642, T643, T649, T730, Ending, Refusal, Asks, Ends, Reached, Ratio, Context, Selected}
use Rattle.guideline.specs.Values.{within, codes, off, switched, setting_entered}
use Rattle.guideline.specs.Ask.{Plan, Done, Step, ◌>>=◌, ◌>>◌, at, Outcome, Chosen, Refused, run, after, chosen_or, no_data}
use Rattle.guideline.specs.Table.{Table, some, among}
use Rattle.guideline.specs.Rows.{Row, keyed, Tables}
use Rattle.guideline.specs.Entries.{datum, datum_in_range, each, switch_in_range, edition_in_range, setting_in_range, dose_in_range, units_in_range, prescription_in_range, in_range}
use Rattle.guideline.specs.Edition.{in_edition}
use Rattle.guideline.specs.Order.{line, place}
use Rattle.guideline.specs.Forms.{when, refuse}
use Rattle.guideline.specs.Quiet.{may_suppress, suppresses}
use Rattle.guideline.specs.Steps.{ratio, product, person, level, setting, few, by_age, exact, twin, signal, no_frequency, by_frequency, by_weight, by_surface, one_row, of_rows, dose_row, limits_of, comparison, nothing, to_basis, to_category, to_rule, selection, Verdict, over_sound, before_step_2}
use Rattle.guideline.specs.Check.{up_to_step_2, from_step_2, outcome, answer, check}
use Rattle.guideline.proofs.AllRefusals.{refusals, all, of_every_refusal}
use Rattle.guideline.proofs.Rise.{Rises, rises_done, rises_stop, rises_ask, rises_when}
use Rattle.guideline.proofs.Steady.{sound_rises, filling_rises, ratio_rises, product_rises, person_rises, level_rises, setting_rises, few_rises, by_age_rises, stands_rises, by_weight_rises, by_surface_rises, one_row_rises, limits_of_rises}
use Rattle.guideline.proofs.Holds.{Holds, holds_done, holds_stop, holds_ask, holds_bind, holds_then, run_holds, Comes}
use Rattle.guideline.proofs.AfterFilling.{keeps_step_2}
use Rattle.guideline.proofs.InEdition.{none_suppressed}

-- steps 2 to 12 with any step 9
abbrev pub StepNine : Type 0
StepNine = Prescription → Context → Table (Row T643) → Step (Table (Row T643))

unfoldable pub rows_with : StepNine → Prescription → Context → Table (Row T643) → Step (Row T643)
rows_with nine e c t = do
  few t
  a ← by_age c.age t
  f ← nine e c a
  w ← by_weight f
  s ← by_surface w
  one_row s

unfoldable pub over_sound_with : StepNine → Tables → Prescription → Plan Reached Verdict
over_sound_with nine t e = do
  q ← at nothing (ratio (t.rows T730) e)
  s ← selected q
  Done (record { compared = comparison e s; reached = to_rule s.context s.row })
  where
    selected : Ratio → Plan Reached Selected
    selected q = do
      p ← at nothing (product (t.rows T640) e.gpk)
      age ← at nothing (person p)
      l ← at nothing (level (t.rows T641) e.gpk)
      s ← at (to_basis l) (setting (t.rows T642) (setting_entered e) l.gpdbas)
      let c : Context = record { ratio = q; product = p; age = age; level = l; setting = s }
      x ← at (to_category c) (rows_with nine e c (among (keyed T643 c.setting.gpdcat) (t.rows T643)))
      m ← at (to_rule c x) (limits_of (t.rows T649) x.gpddnr)
      Done (record { context = c; row = x; limits = m })

over_sound_is : (t : Tables) (e : Prescription) → over_sound t e ≡ over_sound_with (by_frequency (t.rows T649)) t e
unfolding over_sound selection dose_row of_rows over_sound_with rows_with
over_sound_is t e = refl

-- step 9 before P4: "None: 115 .., else 116 .., else 117"
unfoldable pub frequency_before : StepNine
frequency_before e c t =
    when (some (t (exact e))) (Done (among (exact e) t))
    (when (some (t (twin e))) (Done (among (twin e) t)) (refuse (Ending.NoFrequency (signal e t))))

-- 125 without quiet
unfoldable pub in_range_before : Entry → Bool
in_range_before e =
    (within codes e.rest.gpk
    && (setting_in_range e.rest
    && (dose_in_range e.rest
    && (units_in_range e.rest && (switch_in_range e.rest.months && edition_in_range e.rest.edition)))))
    && each (λ x. datum_in_range x (datum e.known x))

unfoldable pub from_step_2_before : Tables → Entry → Outcome Reached Verdict
from_step_2_before t f = run (datum f.known) (over_sound_with frequency_before t f.rest)

unfoldable pub outcome_before : Tables → Entry → Outcome Reached Verdict
outcome_before t e =
    cond (in_range_before e) (after (up_to_step_2 t e) (from_step_2_before t)) (Refused (Ends Ending.EntryOutOfRange) nothing)

unfoldable pub check_before : Tables → Entry → Answer
check_before t e = in_edition e.rest.edition (answer (outcome_before t e))

-- off, or not given
abbrev pub Off : Switch → Type 0
Off s = (switched s ≡ false) × (switch_in_range s ≡ true)

pub not_given_is_off : Off NotGiven
not_given_is_off = (refl, refl)

pub off_is_off : Off (Position off)
off_is_off = (refl, refl)

module _ (e : Prescription) (o : Off e.quiet) where
  same_frequency : (limits : Table (Row T649)) (c : Context) (t : Table (Row T643)) → by_frequency limits e c t ≡ frequency_before e c t
  unfolding by_frequency no_frequency suppresses may_suppress frequency_before when ◌>>=◌
  same_frequency limits c t = rw o.0

  -- step 9 is the only step that differs
  same_steps : (t : Tables) → over_sound t e ≡ over_sound_with frequency_before t e
  unfolding over_sound_with rows_with
  same_steps t = over_sound_is t e ∙ ap (λ (nine : Context → Table (Row T643) → Step (Table (Row T643))). over_sound_with (λ p. nine) t e) (fun_ext (λ c. fun_ext (λ a. same_frequency (t.rows T649) c a)))

-- table 70 fills no setting
quiet_stays : (t : Tables) (e : Entry) → (chosen_or e (up_to_step_2 t e)).rest.quiet ≡ e.rest.quiet
quiet_stays t e = ap (λ (p : Prescription). p.quiet) (keeps_step_2 t e).rest

module _ (e : Entry) (o : Off e.rest.quiet) where
  same_range : in_range e ≡ in_range_before e
  unfolding in_range in_range_before prescription_in_range
  same_range = rw o.1 refl

  same_from_step_2 : (t : Tables) → after (up_to_step_2 t e) (from_step_2 t) ≡ after (up_to_step_2 t e) (from_step_2_before t)
  unfolding from_step_2 from_step_2_before
  same_from_step_2 t = go (up_to_step_2 t e) (subst Off (sym (quiet_stays t e)) o)
    where
      go : (u : Outcome Reached Entry) → Off (chosen_or e u).rest.quiet → after u (from_step_2 t) ≡ after u (from_step_2_before t)
      go (Chosen f) h = ap (run (datum f.known)) (same_steps f.rest h t)
      go (Refused r g) h = refl

  same_outcome : (t : Tables) → outcome t e ≡ outcome_before t e
  unfolding outcome outcome_before
  same_outcome t =
      ap₂ (λ (b : Bool) (u : Outcome Reached Verdict). cond b u (Refused (Ends Ending.EntryOutOfRange) nothing)) same_range (same_from_step_2 t)

  pub as_before : (t : Tables) → check t e ≡ check_before t e
  unfolding check check_before
  as_before t = ap (λ (u : Outcome Reached Verdict). in_edition e.rest.edition (answer u)) (same_outcome t)

-- no test of the check as it was suppresses a signal: those that do stand from 903 to 905
abbrev Calm : {G : Type 0} → Refusal → G → Type 0
Calm r g = (line r).suppressed ≡ 0

abbrev Whatever : {A : Type 0} → A → Type 0
Whatever a = Unit {0}

abbrev calm_between : ℕ → ℕ → Refusal → Bool
calm_between lo hi r = not (leb lo (place r) && ltb (place r) hi) || eqb (line r).suppressed 0

calm_place : (lo hi : ℕ) → T (all (calm_between lo hi) refusals) → (r : Refusal) → lo ≤ place r → place r < hi → (line r).suppressed ≡ 0
calm_place lo hi c r l m =
    go (leb lo (place r)) (ltb (place r) hi) (eqb (line r).suppressed 0) refl (le→leb lo (place r) l) (lt→ltb (place r) hi m) (of_every_refusal (calm_between lo hi) c r)
  where
    go : (p q b : Bool) → eqb (line r).suppressed 0 ≡ b → T p → T q → T (not (p && q) || b) → (line r).suppressed ≡ 0
    go true true true e _ _ k = eqb-true (line r).suppressed 0 e
    go false q b e x4 _ k = elim x4 [ ]
    go true false b e _ x10 k = elim x10 [ ]
    go true true false e _ _ k = elim k [ ]

calm_rises : {A : Type 0} {lo hi : ℕ} {p : Step A} → Rises lo hi p → ((r : Refusal) → lo ≤ place r → place r < hi → (line r).suppressed ≡ 0) → Holds Calm Whatever p
calm_rises (rises_done h) m = holds_done tt
calm_rises (rises_stop {r = r} h h') m = holds_stop (m (Ends r) h h')
calm_rises (rises_ask {q = q} h h' s) m =
    holds_ask (m (Asks q) h h') (λ n. calm_rises (s n) (λ r a b. m r (le_trans h (le_trans (le_of_lt (le_refl (suc (place (Asks q))))) a)) b))

calm : {A : Type 0} {lo hi : ℕ} {p : Step A} → Rises lo hi p → T (all (calm_between lo hi) refusals) → Holds Calm Whatever p
calm {A} {lo} {hi} r c = calm_rises r (calm_place lo hi c)

calm_at : {G A : Type 0} (g : G) {p : Step A} → Holds Calm Whatever p → Holds Calm Whatever (at g p)
unfolding at
calm_at g (holds_done h) = holds_done h
calm_at g (holds_stop h) = holds_stop h
calm_at g (holds_ask h m) = holds_ask h (λ n. calm_at g (m n))

frequency_calm : (e : Prescription) (c : Context) (t : Table (Row T643)) → Holds Calm Whatever (frequency_before e c t)
unfolding frequency_before
frequency_calm e c t =
    calm {lo = 906} {hi = 1000} (rises_when _ (rises_done (lit≤ tt)) (rises_when _ (rises_done (lit≤ tt)) (stands_rises (signal e t)))) tt

rows_calm : (e : Prescription) (c : Context) (t : Table (Row T643)) → Holds Calm Whatever (rows_with frequency_before e c t)
unfolding rows_with
rows_calm e c t =
    holds_then (calm (few_rises t) tt) (λ _ _.
    holds_bind (calm (by_age_rises c.age t) tt) (λ a _.
    holds_bind (frequency_calm e c a) (λ f _.
    holds_bind (calm (by_weight_rises f) tt) (λ w _.
    holds_bind (calm (by_surface_rises w) tt) (λ s _. calm (one_row_rises s) tt)))))

steps_calm : (t : Tables) (e : Prescription) → Holds Calm Whatever (over_sound_with frequency_before t e)
unfolding over_sound_with
steps_calm t e =
    holds_bind (calm_at nothing (calm (ratio_rises _ e) tt)) (λ q _.
    holds_bind {Q = Whatever {A = Selected}}
    (holds_bind (calm_at nothing (calm (product_rises _ _) tt)) (λ p _.
    holds_bind (calm_at nothing (calm (person_rises p) tt)) (λ age _.
    holds_bind (calm_at nothing (calm (level_rises _ _) tt)) (λ l _.
    holds_bind (calm_at (to_basis l) (calm (setting_rises _ _ _) tt)) (λ s _.
    holds_bind (calm_at _ (rows_calm e _ _)) (λ x _.
    holds_bind (calm_at _ (calm (limits_of_rises _ _) tt)) (λ m _. holds_done tt)))))))
    (λ s _. holds_done tt))

before_step_2_calm : (t : Tables) (e : Entry) → Holds Calm Whatever (before_step_2 t e)
unfolding before_step_2
before_step_2_calm t e =
    holds_then (calm_at nothing (calm (sound_rises t) tt)) (λ _ _. calm_at nothing (calm (filling_rises _ e) tt))

pub nothing_suppressed : (t : Tables) (e : Entry) → Off e.rest.quiet → (check t e).suppressed ≡ 0
unfolding check_before outcome_before up_to_step_2 from_step_2_before
nothing_suppressed t e o =
    ap (λ (a : Answer). a.suppressed) (as_before e o t)
    ∙ none_suppressed e.rest.edition (answer (outcome_before t e)) (go (in_range_before e) (up_to_step_2 t e) (run_holds Calm Whatever no_data (before_step_2_calm t e)))
  where
    of_run : (u : Outcome Reached Verdict) → Comes Calm Whatever u → (answer u).suppressed ≡ 0
    of_run (Chosen v) k = refl
    of_run (Refused r g) k = k

    go : (b : Bool) (u : Outcome Reached Entry) → Comes Calm Whatever u → (answer (cond b (after u (from_step_2_before t)) (Refused (Ends Ending.EntryOutOfRange) nothing))).suppressed ≡ 0
    go true (Chosen f) h = of_run (from_step_2_before t f) (run_holds Calm Whatever (datum f.known) (steps_calm t f.rest))
    go true (Refused r g) h = h
    go false u h = refl
