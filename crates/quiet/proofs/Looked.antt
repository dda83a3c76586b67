-- A loop that goes from row to row of what is left, and remembers whether it saw a row with a property. Assumes nothing.
use Prim.Native.Nat.{ℕ, ◌+◌}
use mathlib.Core.Path.{◌≡◌, refl, sym}
use mathlib.Core.Bool.{Bool, true, false, ◌&&◌, ◌||◌, false≢true}
use native.Mathlib.Omega.{arith}
use Rattle.std.specs.Prelude.{Option, None, Some}
use Rattle.guideline.specs.declared.rows.Row643.{Row643}
use Rattle.guideline.specs.declared.rows.TableName.TheVariants.{T643}
use Rattle.guideline.specs.Table.{some}
use Rattle.cells.specs.Keyed.{keyed_read}
use Rattle.cells.specs.Lents.{row_at, key_at}
use Rattle.keys.specs.Hits.{Missed}
use Rattle.keys.specs.Keys.{key_of, Next}
use Rattle.keys.proofs.Visits.{missed_to, missed_on, first_hit}
use Rattle.sieve.specs.declared.left.Left.{Left}
use Rattle.sieve.specs.Left.{kept, passing}
use Rattle.sieve.specs.Settled.{settled643}
use Rattle.sieve.proofs.Kept.{first_tells}

module _ (s : Left) (p : Row643 → Bool) where
  -- what the loop keeps: where it saw none, none of the rows that it has passed is such; else there is one
  abbrev pub Looked : ℕ → Bool → Type 0
  Looked from saw = (saw ≡ false → Missed (passing s p) from) × (saw ≡ true → some (kept s p) ≡ true)

  abbrev test : Row643 → Bool
  test r = settled643 s.settled r && p r

  abbrev Comes : ℕ → Option ℕ → Type 0
  Comes = Next (key_of s.rows.bytes.now s.rows.view (key_at T643)) s.rows.view.rows s.rows.key

  pub looked_first : Looked 0 false
  looked_first = (λ _ m below. absurd (let z : ⊥ = omega arith in z), λ z. absurd (false≢true z))

  pub looked_on : {from i : ℕ} {saw here : Bool} → Looked from saw → Comes from (Some i) → test (row_at T643 s.rows.bytes.now s.rows.view i) ≡ here → Looked (i + 1) (saw || here)
  looked_on {from} {i} {saw} {here} k next e = go saw here e k.0 k.1
    where
      go : (a b : Bool) → test (row_at T643 s.rows.bytes.now s.rows.view i) ≡ b → (a ≡ false → Missed (passing s p) from) → (a ≡ true → some (kept s p) ≡ true) → Looked (i + 1) (a || b)
      go true b e none found = (λ z. absurd (false≢true (sym z)), λ _. found refl)
      go false true e none found =
          (λ z. absurd (false≢true (sym z)), λ _. first_tells s p (Some i) (first_hit s.rows (key_at T643) (keyed_read T643) test (none refl) next e))
      go false false e none found =
          (λ _. missed_on s.rows (key_at T643) (keyed_read T643) test (none refl) next e, λ z. absurd (false≢true z))

  pub looked_all : {from : ℕ} {saw : Bool} → Looked from saw → Comes from None → saw ≡ some (kept s p)
  looked_all {from} {saw} k last = go saw k.0 k.1
    where
      go : (a : Bool) → (a ≡ false → Missed (passing s p) from) → (a ≡ true → some (kept s p) ≡ true) → a ≡ some (kept s p)
      go true none found = sym (found refl)
      go false none found =
          sym (first_tells s p None (missed_to s.rows (key_at T643) (keyed_read T643) test (none refl) s.rows.view.rows last))
