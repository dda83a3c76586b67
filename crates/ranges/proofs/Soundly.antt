-- The tests of the code are step 1 of document 01, and sound tables pass each of them. Assumes nothing.
use Prim.Native.Nat.{ℕ}
use mathlib.Core.Path.{◌≡◌, refl, sym, ◌∙◌, ap}
use mathlib.Core.Bool.{Bool, true, false}
use mathlib.Core.List.{List, [], ◌∷◌}
use Rattle.std.proofs.Common.{Ok, Err, arith}
use Rattle.guideline.specs.declared.rows.TableName.{TableName}
use Rattle.guideline.specs.declared.refusals.Ending.{Ending}
use Rattle.guideline.specs.declared.refusals.Refusal.{Refusal}
use Rattle.guideline.specs.Ask.{Outcome, Chosen, Refused, Step, run, after, no_data, ◌>>◌, ◌>>=◌}
use Rattle.guideline.specs.Rows.{table_order, sound_row}
use Rattle.guideline.specs.Bytes.{Lents, spelled}
use Rattle.guideline.specs.Forms.{when, refuse, demand}
use Rattle.guideline.specs.Table.{all_rows}
use Rattle.guideline.specs.Steps.{each_table, whole, in_ranges, sound}
use Rattle.guideline.proofs.Run.{run_then}
use Rattle.guideline.proofs.AllRefusals.{All, of_every_table}
use Rattle.keys.specs.declared.seen.AllSeen.{AllSeen}
use Rattle.keys.specs.Seen.{all_seen}
use Rattle.ranges.specs.Soundly.{where_passed, passed, soundness}

apart : {A : Type 0} → ◌≡◌ {A = ℕ} 0 1 → A
apart h = absurd (omega arith)

-- what a plan came to is what it is said to have come to
pub passed_chosen : {A : Type 0} (a : A) (o : Outcome (Unit {0}) Bool) {x : A} → Ok x ≡ where_passed a o → (b : Bool) × (o ≡ Chosen b) × (x ≡ a)
passed_chosen a (Chosen b) h = (b, refl, cc)
passed_chosen a (Refused why g) h = apart cc

pub passed_refused : {A : Type 0} (a : A) (o : Outcome (Unit {0}) Bool) {why : Refusal} → Err why ≡ where_passed a o → o ≡ Refused why tt
passed_refused a (Chosen b) h = apart cc
passed_refused a (Refused why g) {why = w} h = let e : why ≡ w = cc in ap (λ (x : Refusal). Refused x tt) e

-- one step and then another, where the first has passed, and where it has not
module _ {A B : Type 0} (a : A) (b : B) (p q : Step Bool) where
  pub first_passed : {x : A} → Ok x ≡ passed a p → passed b (p >> q) ≡ passed b q
  unfolding passed
  first_passed h =
      ap (where_passed b) (run_then no_data p q ∙ ap (λ (o : Outcome (Unit {0}) Bool). after o (λ _. run no_data q)) (passed_chosen a (run no_data p) h).1)

  pub first_refused : {why : Refusal} → Err why ≡ passed a p → passed b (p >> q) ≡ Err why
  unfolding passed
  first_refused h =
      ap (where_passed b) (run_then no_data p q ∙ ap (λ (o : Outcome (Unit {0}) Bool). after o (λ _. run no_data q)) (passed_refused a (run no_data p) h))

-- a step that has passed has passed each of its tests
module _ (test : TableName → Bool) (ending : TableName → Ending) where
  each_passed : (b : Bool) (l : List TableName) → run no_data (each_table test ending l) ≡ Chosen b → All (λ (n : TableName). test n ≡ true) l
  unfolding each_table demand when refuse ◌>>◌ ◌>>=◌
  each_passed b [] h = tt
  each_passed b (n ∷ l) h = go (test n) refl (each_passed b l) h
    where
      go : (t : Bool) → test n ≡ t → (run no_data (each_table test ending l) ≡ Chosen b → All (λ (m : TableName). test m ≡ true) l) → run no_data (demand t (ending n) >> each_table test ending l) ≡ Chosen b → (test n ≡ true) × All (λ (m : TableName). test m ≡ true) l
      go true e rec k = (e, rec k)
      go false e rec k = apart cc

last_chosen : (o : Outcome (Unit {0}) Bool) {q : Outcome (Unit {0}) Bool} {x : Bool} → after o (λ _. q) ≡ Chosen x → q ≡ Chosen x
last_chosen (Chosen y) h = h
last_chosen (Refused why g) h = apart cc

-- what those who asked go on with
module _ (b : Lents) where
  pub sound_run : {w : AllSeen} → Ok w ≡ soundness b → (x : Bool) × (run no_data (sound (spelled b)) ≡ Chosen x) × (w ≡ all_seen b)
  unfolding soundness passed
  sound_run h = passed_chosen (all_seen b) (run no_data (sound (spelled b))) h

  pub refused_run : {why : Refusal} → Err why ≡ soundness b → run no_data (sound (spelled b)) ≡ Refused why tt
  unfolding soundness passed
  refused_run h = passed_refused (all_seen b) (run no_data (sound (spelled b))) h

  pub all_sound : {w : AllSeen} → Ok w ≡ soundness b → (n : TableName) → all_rows (sound_row n) ((spelled b).rows n) ≡ true
  unfolding sound in_ranges
  all_sound h =
      let t = spelled b in
      let sound_rows = λ (n : TableName). all_rows (sound_row n) (t.rows n) in
      let k = sound_run h in
      of_every_table (λ (n : TableName). sound_rows n ≡ true) (each_passed sound_rows Ending.OutOfRange k.0 table_order (last_chosen (run no_data (whole t)) (sym (run_then no_data (whole t) (in_ranges t)) ∙ k.1)))
