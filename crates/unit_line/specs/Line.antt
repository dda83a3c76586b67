-- The line of the unit list for what was read of a record (document 01, "Record 730"). Assumes nothing.
use Rattle.std.specs.Prelude.{ℕ, ◌/◌, ◌%◌, List, [], ◌∷◌, ◌++◌}
use Rattle.decimals.specs.Decimal.{space, line_feed, digits, field}
use Rattle.records.specs.Ascii.{ascii}
use Rattle.records.specs.Layout.{Reading, said, refused}
use Rattle.records_730.specs.declared.Record730.{Record730}

abbrev pub point : ℕ
point = 46

-- an amount in thousandths, at least one whole digit, a point and three decimals; and the character behind it
unfoldable pub amount : ℕ → ℕ → List ℕ
amount n behind = field (n / 1000) point ++ (digits 3 (n % 1000) ++ (behind ∷ []))

-- SRTCDE, CODE, amount, unit with one space between, or the word refused, a space and the number; ended by a line feed
unfoldable pub line : Reading Record730 → List ℕ
line (said r) = field r.srtcde space ++ (field r.code space ++ (amount r.cdhoev space ++ field r.cdeenh line_feed))
line (refused n) = ascii "refused " ++ field n line_feed
