-- What the filling comes to, by what table 70 has of the HPK. Assumes nothing.
use Prim.Native.Nat.{ℕ}
use mathlib.Core.Bool.{Bool, true, false, cond}
use mathlib.Core.Path.{◌≡◌, refl, sym, ◌∙◌, ap}
use Rattle.std.specs.Prelude.{Result, Ok, Err}
use Rattle.guideline.specs.Types.{Value, Blank, Given}
use Rattle.guideline.specs.declared.entries.Datum.{Datum}
use Rattle.guideline.specs.declared.entries.Entry.{Entry}
use Rattle.guideline.specs.declared.rows.Row070.{Row070}
use Rattle.guideline.specs.declared.refusals.Ending.TheVariants.{HpkRowDiffers, HpkRowsSeveral}
use Rattle.guideline.specs.declared.refusals.Refusal.{Refusal}
use Rattle.guideline.specs.declared.refusals.Refusal.TheVariants.{Ends}
use Rattle.guideline.specs.declared.rows.TableName.TheVariants.{T070}
use Rattle.guideline.specs.Ask.{Done, Step, ◌>>=◌, ◌>>◌, run}
use Rattle.guideline.specs.Table.{Table, Hits, None, One, Many}
use Rattle.guideline.specs.Rows.{keyed}
use Rattle.guideline.specs.Forms.{when, refuse, demand, choose}
use Rattle.guideline.specs.Filling.{of_hpk, agrees, filled_by, filling}
use Rattle.guideline.specs.Results.{answered}
use Rattle.tables.specs.Found.{found}
use Rattle.tables.specs.declared.found.Found.{Found}
use Rattle.tables.specs.declared.found.Found.TheVariants.{Nothing, One as FoundOne, Many as FoundMany}
use Rattle.filling.specs.Fills.{by_row}

-- by what table 70 has of the HPK
abbrev by_hits : Hits Row070 → Entry → Step Entry
by_hits h e = choose h (Done e) (λ r. demand (agrees r e) HpkRowDiffers >> Done (filled_by r e)) (refuse HpkRowsSeveral)

abbrev pub by_found : Found Row070 → Entry → Result Entry Refusal
by_found Nothing e = Ok e
by_found (FoundOne r) e = by_row r e
by_found (FoundMany n) e = Err (Ends HpkRowsSeveral)

module _ (d : Datum → Value) where
  comes : (h : Hits Row070) (e : Entry) → by_found (found h) e ≡ answered (run d (by_hits h e))
  unfolding choose demand when refuse ◌>>◌ ◌>>=◌ by_row
  comes None e = refl
  comes (One r) e = go (agrees r e)
    where
      go : (s : Bool) → cond s (Ok (filled_by r e)) (Err (Ends HpkRowDiffers)) ≡ answered (run d (demand s HpkRowDiffers >> Done (filled_by r e)))
      go true = refl
      go false = refl
  comes (Many n) e = refl

  -- no HPK; one that is given, of which table 70 answers k
  pub without_hpk : (t : Table Row070) (e : Entry) → e.known.hpk ≡ Blank → Ok e ≡ answered (run d (filling t e))
  unfolding filling of_hpk
  without_hpk t e h = comes None e ∙ sym (ap (λ (v : Value). answered (run d (by_hits (of_hpk t v) e))) h)

  pub with_hpk : (t : Table Row070) (e : Entry) (hpk : ℕ) → e.known.hpk ≡ Given hpk → {f k : Found Row070} → f ≡ found (t (keyed T070 hpk)) → f ≡ k → by_found k e ≡ answered (run d (filling t e))
  unfolding filling of_hpk
  with_hpk t e hpk h i j =
      ap (λ (f : Found Row070). by_found f e) (sym j ∙ i)
      ∙ comes (t (keyed T070 hpk)) e
      ∙ sym (ap (λ (v : Value). answered (run d (by_hits (of_hpk t v) e))) h)
