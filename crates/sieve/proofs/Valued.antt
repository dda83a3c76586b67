-- A test by a value that may be settled is its filter's. Assumes nothing.
use Prim.Native.Nat.{ℕ}
use mathlib.Core.Path.{◌≡◌}
use mathlib.Core.Bool.{Bool, true}
use Rattle.std.specs.Prelude.{MatchOption}
use Rattle.guideline.specs.Types.{Value, Blank, Given}
use Rattle.guideline.specs.declared.rows.Row643.{Row643}
use Rattle.filter.specs.declared.Filter.{Filter}
use Rattle.filter.specs.Filters.{filter643}
use Rattle.sieve.specs.Settled.{value_filter}

pub by_value : (f : ℕ → Filter) (r : Row643) (x : Value) {b : Bool} {P : ℕ → Type 0} → MatchOption x (b ≡ true) P → ((n : ℕ) → P n → b ≡ filter643 (f n) r) → b ≡ filter643 (value_filter f x) r
by_value f r Blank h says = h
by_value f r (Given n) h says = says n h
