-- What comes before step 2: a refusal of step 1, or what the rows of the entry's HPK in table 70 make of the entry (`comes_to`). It asks for no datum
-- (`never_asks`), and entries that table 70 treats alike come to outcomes that are alike (`alike`).
use Prim.Native.Nat.{◌≤◌, ◌<◌}
use mathlib.Core.Path.{◌≡◌, refl, sym, ◌∙◌, ap, subst}
use mathlib.Core.Bool.{Bool, true, false, cond, not, ◌&&◌, ◌||◌}
use native.Mathlib.Nat.{lt_of_lt_of_le}
use lib.Dec.{T, leb, ltb, lit≤, le→leb, lt→ltb}
use Rattle.guideline.specs.Types.{Datum, Value, Entry, T070, Question, Ending, Refusal, Asks, Ends, Reached}
use Rattle.guideline.specs.Ask.{Plan, Done, Step, ◌>>=◌, ◌>>◌, at, Outcome, Chosen, Refused, run, after, no_data}
use Rattle.guideline.specs.Order.{place}
use Rattle.guideline.specs.Table.{Hits, None, One, Many}
use Rattle.guideline.specs.Rows.{Row, Tables}
use Rattle.guideline.specs.Forms.{when, refuse, demand, choose}
use Rattle.guideline.specs.Filling.{of_hpk, agrees, filled_by, filling}
use Rattle.guideline.specs.Steps.{sound, nothing, before_step_2, Verdict}
use Rattle.guideline.specs.Check.{up_to_step_2}
use Rattle.guideline.proofs.AllRefusals.{of_every_refusal}
use Rattle.guideline.proofs.Run.{run_then}
use Rattle.guideline.proofs.Rise.{rises_from}
use Rattle.guideline.proofs.Steady.{sound_rises, filling_rises}
use Rattle.guideline.proofs.Holds.{Holds, holds_done, holds_stop, holds_ask, holds_all, holds_then, holds_at, run_holds, Comes, Any}

-- step 1; the rows of the entry's HPK; what they make of the entry
abbrev pub step_1 : Tables → Outcome Reached Bool
step_1 t = run no_data (at nothing (sound t))

abbrev pub hpk_rows : Tables → Entry → Hits (Row T070)
hpk_rows t e = of_hpk (t.rows T070) e.known.hpk

abbrev pub one_filled : Bool → Entry → Outcome Reached Entry
one_filled s f = cond s (Chosen f) (Refused (Ends Ending.HpkRowDiffers) nothing)

abbrev pub filled : Hits (Row T070) → Entry → Outcome Reached Entry
filled None e = Chosen e
filled (One r) e = one_filled (agrees r e) (filled_by r e)
filled (Many n) e = Refused (Ends Ending.HpkRowsSeveral) nothing

filling_comes : (h : Hits (Row T070)) (e : Entry) → run no_data (at nothing (choose h (Done e) (λ r. demand (agrees r e) Ending.HpkRowDiffers >> Done (filled_by r e)) (refuse Ending.HpkRowsSeveral))) ≡ filled h e
unfolding choose demand when refuse at ◌>>◌ ◌>>=◌
filling_comes None e = refl
filling_comes (One r) e = go (agrees r e)
  where
    go : (s : Bool) → run no_data (at nothing (demand s Ending.HpkRowDiffers >> Done (filled_by r e))) ≡ one_filled s (filled_by r e)
    go true = refl
    go false = refl
filling_comes (Many n) e = refl

pub comes_to : (t : Tables) (e : Entry) → up_to_step_2 t e ≡ after (step_1 t) (λ _. filled (hpk_rows t e) e)
unfolding up_to_step_2 before_step_2 filling
comes_to t e =
    run_then no_data (at nothing (sound t)) _
    ∙ ap (λ (o : Outcome Reached Entry). after (step_1 t) (λ _. o)) (filling_comes (hpk_rows t e) e)

-- two outcomes: the same refusal, or two entries that are alike
abbrev pub Alike : (Entry → Entry → Type 0) → Outcome Reached Entry → Outcome Reached Entry → Type 0
Alike R (Chosen f) (Chosen f') = R f f'
Alike R (Chosen f) (Refused r g) = ⊥
Alike R (Refused r g) (Chosen f) = ⊥
Alike R (Refused r g) (Refused r' g') = (r' ≡ r) × (g' ≡ g)

-- what follows from alike entries alike follows from alike outcomes alike
pub after_alike : (R : Entry → Entry → Type 0) (k k' : Entry → Outcome Reached Verdict) → ((f f' : Entry) → R f f' → k' f' ≡ k f) → (o o' : Outcome Reached Entry) → Alike R o o' → after o' k' ≡ after o k
after_alike R k k' same (Chosen f) (Chosen f') h = same f f' h
after_alike R k k' same (Chosen f) (Refused r g) h = absurd h
after_alike R k k' same (Refused r g) (Chosen f') h = absurd h
after_alike R k k' same (Refused r g) (Refused r' g') h = rw (h.0, h.1) refl

-- the one row of the HPK, where the tables passed step 1
pub record OneRow (t : Tables) (e : Entry) (r : Row T070) : Type 0 where
  pub test : Bool
  pub passed : step_1 t ≡ Chosen test
  pub row : hpk_rows t e ≡ One r

-- table 70 treats two entries alike: they have the same HPK and are alike as they are; and where it has one row, they agree with it or not alike, and are
-- alike when it has filled them
pub record Treated (t : Tables) (R : Entry → Entry → Type 0) (e e' : Entry) : Type 0 where
  pub hpk : e'.known.hpk ≡ e.known.hpk
  pub as_they_are : R e e'
  pub agree : (r : Row T070) → OneRow t e r → agrees r e' ≡ agrees r e
  pub as_filled : (r : Row T070) → OneRow t e r → agrees r e ≡ true → R (filled_by r e) (filled_by r e')

pub alike : (t : Tables) (R : Entry → Entry → Type 0) (e e' : Entry) → Treated t R e e' → Alike R (up_to_step_2 t e) (up_to_step_2 t e')
alike t R e e' h = rw (comes_to t e, comes_to t e') (subst (λ (v : Value). Alike R (after (step_1 t) (λ _. filled (hpk_rows t e) e)) (after (step_1 t) (λ _. filled (of_hpk (t.rows T070) v) e'))) (sym h.hpk) (of_step_1 (step_1 t) refl))
  where
    of_one : (r : Row T070) (s s' : Bool) → s' ≡ s → (s ≡ true → R (filled_by r e) (filled_by r e')) → Alike R (one_filled s (filled_by r e)) (one_filled s' (filled_by r e'))
    of_one r true s' a m = rw a (m refl)
    of_one r false s' a m = rw a (refl, refl)

    of_rows : (b : Bool) → step_1 t ≡ Chosen b → (x : Hits (Row T070)) → hpk_rows t e ≡ x → Alike R (filled x e) (filled x e')
    of_rows b p None q = h.as_they_are
    of_rows b p (One r) q =
        let o : OneRow t e r = record { test = b; passed = p; row = q } in
        of_one r (agrees r e) (agrees r e') (h.agree r o) (h.as_filled r o)
    of_rows b p (Many n) q = (refl, refl)

    of_step_1 : (o : Outcome Reached Bool) → step_1 t ≡ o → Alike R (after o (λ _. filled (hpk_rows t e) e)) (after o (λ _. filled (hpk_rows t e) e'))
    of_step_1 (Chosen b) p = of_rows b p (hpk_rows t e) refl
    of_step_1 (Refused r g) p = (refl, refl)

-- the tests before step 2 end the check, and ask for nothing
abbrev is_end : Refusal → Bool
is_end (Asks q) = false
is_end (Ends r) = true

abbrev ends_before_step_2 : Refusal → Bool
ends_before_step_2 r = not (leb 101 (place r) && ltb (place r) 200) || is_end r

abbrev IsEnd : Refusal → Reached → Type 0
IsEnd r g = T (is_end r)

end_by_place : (r : Refusal) → 101 ≤ place r → place r < 200 → T (is_end r)
end_by_place r l m =
    go (leb 101 (place r)) (ltb (place r) 200) (le→leb 101 (place r) l) (lt→ltb (place r) 200 m) (of_every_refusal ends_before_step_2 tt r)
  where
    go : (p q : Bool) → T p → T q → T (not (p && q) || is_end r) → T (is_end r)
    go true true _ _ k = k
    go false q x3 _ k = elim x3 [ ]
    go true false _ x8 k = elim x8 [ ]

abbrev Whatever : {A : Type 0} → A → Type 0
Whatever a = Unit {0}

whatever : {A : Type 0} (p : Step A) → Holds Any Whatever p
whatever {A} p = holds_all Any Whatever p (λ r g. tt) (λ a. tt)

step_1_ends : (t : Tables) → Holds IsEnd Whatever (at nothing (sound t))
step_1_ends t =
    holds_at IsEnd Whatever nothing (sound t) (sound_rises t) (whatever _) (λ r l m. end_by_place r l (lt_of_lt_of_le m (lit≤ tt)))

before_step_2_ends : (t : Tables) (e : Entry) → Holds IsEnd Whatever (before_step_2 t e)
unfolding before_step_2
before_step_2_ends t e =
    holds_then (step_1_ends t) (λ _ _.
    holds_at IsEnd Whatever nothing (filling (t.rows T070) e) (rises_from (lit≤ tt) (filling_rises _ e)) (whatever _) end_by_place)

-- so it comes to the same whatever the data are
same_run : {A : Type 0} {p : Plan Reached A} → Holds IsEnd Whatever p → (d d' : Datum → Value) → run d p ≡ run d' p
same_run (holds_done h) d d' = refl
same_run (holds_stop h) d d' = refl
same_run (holds_ask h m) d d' = absurd h

pub step_1_on : (t : Tables) (d : Datum → Value) → run d (at nothing (sound t)) ≡ step_1 t
step_1_on t d = same_run (step_1_ends t) d no_data

pub never_asks : (t : Tables) (e : Entry) (q : Question) (g : Reached) → up_to_step_2 t e ≡ Refused (Asks q) g → ⊥
unfolding up_to_step_2
never_asks t e q g h = go (run no_data (before_step_2 t e)) h (run_holds IsEnd Whatever no_data (before_step_2_ends t e))
  where
    go : (o : Outcome Reached Entry) → o ≡ Refused (Asks q) g → Comes IsEnd Whatever o → ⊥
    go o h k = subst (Comes IsEnd Whatever) h k
