-- Step 5, where the PRK or the HPK is given: what its rows tell, and where there are none, what follows. Assumes nothing.
use Prim.Native.Nat.{ℕ}
use mathlib.Core.Path.{◌≡◌}
use mathlib.Core.Bool.{true}
use Rattle.guideline.specs.declared.entries.Datum.{Datum}
use Rattle.guideline.specs.declared.entries.Datum.TheVariants.{Hpk, Prk}
use Rattle.guideline.specs.Types.{Value, Given}
use Rattle.guideline.specs.declared.refusals.Ending.TheVariants.{HpkSeveral, PrkSeveral}
use Rattle.guideline.specs.declared.rows.Row641.{Row641}
use Rattle.guideline.specs.Ask.{Done, run, ◌>>=◌}
use Rattle.guideline.specs.Table.{Table, Hits, some}
use Rattle.guideline.specs.Forms.{when, ask, choose, refuse}
use Rattle.guideline.specs.Steps.{hpk_level, prk_level, by_base, by_prk, by_hpk}
use Rattle.tables.specs.Tests.{of_hpk, of_prk}

module _ (t : Table Row641) (d : Datum → Value) {n : ℕ} {h : Hits Row641} where
  pub prk_given : some (t prk_level) ≡ true → d Prk ≡ Given n → t (of_prk n) ≡ h → run d (by_prk t) ≡ run d (choose h (by_base t) (λ r. Done r) (refuse PrkSeveral))
  unfolding by_prk when ask ◌>>=◌
  prk_given some_row given hits = rw (some_row, given, ← hits)

  pub hpk_given : some (t hpk_level) ≡ true → d Hpk ≡ Given n → t (of_hpk n) ≡ h → run d (by_hpk t) ≡ run d (choose h (by_prk t) (λ r. Done r) (refuse HpkSeveral))
  unfolding by_hpk when ask ◌>>=◌
  hpk_given some_row given hits = rw (some_row, given, ← hits)
