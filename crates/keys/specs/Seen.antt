-- What was seen of a lent table: it is said to rise if and only if its keys do, row after row.
use Rattle.std.specs.Prelude.{ℕ, ◌≡◌, List}
use Rattle.guideline.specs.declared.rows.TableName.{TableName}
use Rattle.guideline.specs.declared.rows.TableName.TheVariants.{T640, T641, T642, T643, T649, T730, T070}
use Rattle.guideline.specs.Rows.{width}
use Rattle.guideline.specs.Bytes.{Lents}
use Rattle.cells.specs.Views.{by_width}
use Rattle.cells.specs.Lents.{key_at}
use Rattle.keys.specs.declared.seen.Seen.{Seen}
use Rattle.keys.specs.declared.seen.AllSeen.{AllSeen}
use Rattle.keys.specs.Keys.{key_of}
use Rattle.keys.specs.Rising.{rises}

-- of rows of w numbers, whose key is number k
abbrev pub seen_by : ℕ → ℕ → List ℕ → Seen
seen_by w k l = record { rising = rises (key_of l (by_width w l) k) (by_width w l).rows }

pub record SeesBy (w k : ℕ) (l : List ℕ) (s : Seen) : Type 0 where
  pub same : s ≡ seen_by w k l

-- of a table
abbrev pub seen_of : (n : TableName) → List ℕ → Seen
seen_of n l = seen_by (width n) (key_at n) l

abbrev pub Sees : (n : TableName) → List ℕ → Seen → Type 0
Sees n l s = SeesBy (width n) (key_at n) l s

abbrev pub all_seen : Lents → AllSeen
all_seen b =
    record {
      t640 = seen_of T640 (b T640);
      t641 = seen_of T641 (b T641);
      t642 = seen_of T642 (b T642);
      t643 = seen_of T643 (b T643);
      t649 = seen_of T649 (b T649);
      t730 = seen_of T730 (b T730);
      t070 = seen_of T070 (b T070);
    }
