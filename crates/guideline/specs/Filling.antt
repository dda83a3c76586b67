-- P5, "Let the HPK bring its PRK": table 70 fills in what the entry leaves open, before step 2. It asks for no datum.
use Rattle.std.specs.Prelude.{ℕ, Bool, true, cond, ◌&&◌, ◌||◌, eqb}
use Rattle.guideline.specs.Types.{Value, Blank, Given, Entry, T070, Ending}
use Rattle.guideline.specs.Values.{no_gpk}
use Rattle.guideline.specs.Ask.{Done, Step, ◌>>◌}
use Rattle.guideline.specs.Table.{Table, Hits, None}
use Rattle.guideline.specs.Rows.{Row, keyed}
use Rattle.guideline.specs.Entries.{with_prk, with_gpk}
use Rattle.guideline.specs.Forms.{refuse, demand, choose}

-- the rows of a given HPK
unfoldable pub of_hpk : Table (Row T070) → Value → Hits (Row T070)
of_hpk t Blank = None
of_hpk t (Given hpk) = t (keyed T070 hpk)

-- 133, "a PRK or GPK that differs from the row": a blank PRK and a GPK of 0 do not differ
unfoldable pub same_prk : Row T070 → Value → Bool
same_prk r Blank = true
same_prk r (Given prk) = eqb prk r.prkode

unfoldable pub same_gpk : Row T070 → ℕ → Bool
same_gpk r gpk = eqb gpk no_gpk || eqb gpk r.gpkode

unfoldable pub agrees : Row T070 → Entry → Bool
agrees r e = same_prk r e.known.prk && same_gpk r e.rest.gpk

-- "A given HPK with one 070 row fills a blank PRK and a GPK of 0."
unfoldable pub prk_filled : Row T070 → Value → Value
prk_filled r Blank = Given r.prkode
prk_filled r (Given prk) = Given prk

unfoldable pub gpk_filled : Row T070 → ℕ → ℕ
gpk_filled r gpk = cond (eqb gpk no_gpk) r.gpkode gpk

unfoldable pub filled_by : Row T070 → Entry → Entry
filled_by r e =
    record {
      known = with_prk (prk_filled r e.known.prk) e.known;
      rest = with_gpk (gpk_filled r e.rest.gpk) e.rest;
    }

-- "An HPK with no row fills nothing." "123 with table 70 for several rows and next 133 .. for a PRK or GPK that differs from the row"
unfoldable pub filling : Table (Row T070) → Entry → Step Entry
filling t e =
    choose (of_hpk t e.known.hpk) (Done e) (λ r. demand (agrees r e) Ending.HpkRowDiffers >> Done (filled_by r e))
    (refuse Ending.HpkRowsSeveral)
