-- What the search of step 9 finds.
use Rattle.std.specs.Prelude.{ℕ, ◌≡◌, false, cond, Option, None, Some}
use Rattle.guideline.specs.declared.rows.Row643.{Row643}
use Rattle.guideline.specs.Table.{Table, some}
use Rattle.filter.specs.declared.Frequency.{Frequency}
use Rattle.filter.specs.declared.Filter.{Filter}
use Rattle.filter.specs.declared.Filter.TheVariants.{Exact, Twin}
use Rattle.filter.specs.Filters.{filter643}
use Rattle.keys.specs.Hits.{First}
use Rattle.sieve.specs.declared.left.Left.{Left}
use Rattle.sieve.specs.Left.{kept, passing}

-- "Same count and unit on one row. If none, same count and the twin unit."
abbrev pub frequency_kept : Frequency → Table Row643 → Filter
frequency_kept f t = cond (some (t (filter643 (Exact f)))) (Exact f) (Twin f)

-- where the first row that has the frequency stands, and by which filter; or that no row has it
abbrev pub Matched : Left → Frequency → Option (ℕ × Filter) → Type 0
Matched s f (Some (i, q)) = (q ≡ frequency_kept f (kept s)) × First (passing s (filter643 q)) s.rows.view.rows (Some i)
Matched s f None =
    (some (kept s (filter643 (Exact f))) ≡ false) × (some (kept s (filter643 (Twin f))) ≡ false)
