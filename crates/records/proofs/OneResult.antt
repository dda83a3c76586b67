-- One result only: a refusal, and what a writer answers, can be told from their numbers. Assumes nothing.
use Prim.Native.Nat.{ℕ}
use mathlib.Core.Bool.{cond}
use mathlib.Core.Path.{◌≡◌, refl, sym, ap, ◌∙◌}
use lib.Dec.{eqb}
use Rattle.records.specs.Layout.{Reading, said, refused}
use Rattle.records.specs.Numbers.{read_refusal, says, write_number}
use Rattle.records.specs.declared.ReadRefusal.{ReadRefusal}
use Rattle.records.specs.declared.ReadRefusal.TheVariants.{Length, Fixed, Digit, Mutation}
use Rattle.records.specs.declared.WriteRefusal.{WriteRefusal}
use Rattle.records.specs.declared.WriteRefusal.TheVariants.{TooWide, NoRoom}
use Rattle.std.specs.Prelude.{Result, Ok, Err}

-- what can be told from its numbers is one
pub once : {A B : Type 0} (told : A → B) (from : B → A) → ((a : A) → from (told a) ≡ a) → (a b : A) → told a ≡ told b → a ≡ b
once told from back a b e = sym (back a) ∙ (ap from e ∙ back b)

pub refusal : ℕ → ReadRefusal
refusal n = cond (eqb n 201) Length (cond (eqb n 202) Fixed (cond (eqb n 203) Digit Mutation))

pub refusal_back : (e : ReadRefusal) → refusal (read_refusal e) ≡ e
unfolding refusal
refusal_back Length = refl
refusal_back Fixed = refl
refusal_back Digit = refl
refusal_back Mutation = refl

read_result : {Record : Type 0} → Reading Record → Result Record ReadRefusal
read_result (said r) = Ok r
read_result (refused n) = Err (refusal n)

read_result_back : {Record : Type 0} (x : Result Record ReadRefusal) → read_result (says x) ≡ x
unfolding read_result
read_result_back (Ok r) = refl
read_result_back (Err e) = ap Err (refusal_back e)

-- whatever the file
pub read_once : {Record : Type 0} (a b : Result Record ReadRefusal) → says a ≡ says b → a ≡ b
read_once = once says read_result read_result_back

written : ℕ → Result Unit WriteRefusal
written n = cond (eqb n 0) (Ok tt) (cond (eqb n 205) (Err TooWide) (Err NoRoom))

written_back : (w : Result Unit WriteRefusal) → written (write_number w) ≡ w
unfolding written
written_back (Ok d) = refl
written_back (Err TooWide) = refl
written_back (Err NoRoom) = refl

pub write_once : (a b : Result Unit WriteRefusal) → write_number a ≡ write_number b → a ≡ b
write_once = once write_number written written_back
