-- A line, number by number. Assumes nothing.
use Prim.Native.Nat.{ℕ, ◌+◌, ◌<◌}
use mathlib.Core.List.{List, ◌++◌}
use mathlib.Core.Path.{◌≡◌}
use native.Mathlib.Omega.{arith}
use native.Mathlib.Numerals.{add-one}
use lib.ListN.{length, get_or, drop, length-append}
use lib.Seq.{sets, drop-cons}
use Rattle.decimals.specs.Decimal.{field}
use Rattle.decimals.specs.Put.{Put}
use Rattle.decimals.proofs.Puts.{sets_append}
use Rattle.stream.specs.Lines.{separator, line}

-- what is left of a line, behind the first of its numbers
line_step : (l : List ℕ) (i : ℕ) → i < length l → line (drop i l) ≡ field (get_or l i 0) (separator (drop (i + 1) l)) ++ line (drop (i + 1) l)
unfolding line
line_step l i h = rw (drop-cons l i 0 h, add-one i)

pub put_number : {old mid : List ℕ} {at end s : ℕ} (l : List ℕ) (i : ℕ) → i < length l → s ≡ separator (drop (i + 1) l) → Put old at (field (get_or l i 0) s) mid end → (end + length (line (drop (i + 1) l)) ≡ at + length (line (drop i l))) × (sets mid end (line (drop (i + 1) l)) ≡ sets old at (line (drop i l)))
put_number {old} {mid} {at} {end} {s} l i h e p =
    let first = field (get_or l i 0) (separator (drop (i + 1) l)) in
    let rest = line (drop (i + 1) l) in
    let q : Put old at first mid end = rw e at p in
    (rw (line_step l i h, length-append first rest, q.place) (omega arith), rw (line_step l i h, sets_append old at first rest, ← q.bytes, ← q.place))

-- a line of numbers is the line of any list that they are
pub line_of_these : {old new : List ℕ} {at end : ℕ} (l m : List ℕ) → Put old at (line l) new end → l ≡ m → Put old at (line m) new end
line_of_these l m p e = rw e at p
