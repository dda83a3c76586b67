-- Views of n bytes: which fit, and the narrower ones.
use Rattle.std.specs.Prelude.{ℕ, List, ◌+◌, ◌-◌, ◌*◌, ◌≤◌, ◌<◌}
use Rattle.guideline.specs.declared.view.View.{View}
use Rattle.guideline.specs.Bytes.{place, rows_in}

-- the first w numbers of each row lie among the bytes, and so does the place where the rows end
pub record Fits (w : ℕ) (v : View) (n : ℕ) : Type 0 where
  pub inside : (i k : ℕ) → i < v.rows → k < w → place v i k * 4 + 4 ≤ n
  pub end : v.first + v.rows * v.step ≤ n
  pub few : v.rows ≤ n

-- rows of w numbers, one after another
abbrev pub by_width : ℕ → List ℕ → View
by_width w l = record { first = 0; step = w; jump = 1; rows = rows_in w l }

-- the rows from a on and below b
abbrev pub narrowed : View → ℕ → ℕ → View
narrowed v a b = record { first = v.first + a * v.step; step = v.step; jump = v.jump; rows = b - a }
