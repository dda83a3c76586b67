-- Table 70, where it passed 122, fills only numbers that are in range. Assumes nothing.
use mathlib.Core.Bool.{Bool, true, false}
use mathlib.Core.Path.{◌≡◌, refl, sym, ◌∙◌, ap}
use Rattle.guideline.specs.declared.entries.Entry.{Entry}
use Rattle.guideline.specs.Types.{Value}
use Rattle.guideline.specs.Types.{Blank, Given}
use Rattle.guideline.specs.declared.refusals.Ending.TheVariants.{HpkRowsSeveral, HpkRowDiffers}
use Rattle.guideline.specs.declared.rows.Row070.{Row070}
use Rattle.guideline.specs.declared.rows.TableName.TheVariants.{T070}
use Rattle.guideline.specs.Ask.{Done, ◌>>=◌, ◌>>◌, Chosen, run, no_data}
use Rattle.guideline.specs.Table.{Table, Hits, None, One, Many}
use Rattle.guideline.specs.Rows.{keyed, sound_row}
use Rattle.guideline.specs.Entries.{in_range}
use Rattle.guideline.specs.Forms.{when, refuse, demand, choose}
use Rattle.guideline.specs.Filling.{of_hpk, agrees, filled_by, filling}
use Rattle.guideline.proofs.Gives.{Gives}
use Rattle.guideline.proofs.FilledEntry.{filled_in_range}

abbrev InRange : Row070 → Type 0
InRange r = sound_row T070 r ≡ true

hpk_row : (t : Table Row070) → Gives InRange t → (v : Value) (r : Row070) → of_hpk t v ≡ One r → InRange r
unfolding of_hpk
hpk_row t gives Blank r h = absurd cc
hpk_row t gives (Given hpk) r h = gives (keyed T070 hpk) r h

module _ (e : Entry) (f : Entry) where
  of_row : (r : Row070) → InRange r → (s : Bool) → run no_data (demand s HpkRowDiffers >> Done (filled_by r e)) ≡ Chosen f → in_range f ≡ in_range e
  unfolding demand when refuse ◌>>◌ ◌>>=◌
  of_row r h true m = let same : filled_by r e ≡ f = cc in ap in_range (sym same) ∙ filled_in_range r h e
  of_row r h false m = absurd cc

  of_rows : (h : Hits Row070) → ((r : Row070) → h ≡ One r → InRange r) → run no_data (choose h (Done e) (λ r. demand (agrees r e) HpkRowDiffers >> Done (filled_by r e)) (refuse HpkRowsSeveral)) ≡ Chosen f → in_range f ≡ in_range e
  unfolding choose refuse
  of_rows None g m = let same : e ≡ f = cc in ap in_range (sym same)
  of_rows (One r) g m = of_row r (g r refl) (agrees r e) m
  of_rows (Many n) g m = absurd cc

  pub filling_in_range : (t : Table Row070) → Gives InRange t → run no_data (filling t e) ≡ Chosen f → in_range f ≡ in_range e
  unfolding filling
  filling_in_range t gives m = of_rows (of_hpk t e.known.hpk) (hpk_row t gives e.known.hpk) m
