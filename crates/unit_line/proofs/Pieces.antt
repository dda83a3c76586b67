-- A line in the pieces in which it is written, and how long they are. Assumes nothing.
use Prim.Native.Nat.{ℕ, ◌+◌, ◌/◌, ◌%◌}
use mathlib.Core.List.{List, [], ◌∷◌, ◌++◌}
use mathlib.Core.Path.{◌≡◌, refl}
use lib.ListN.{length, length-append}
use lib.Seq.{sets}
use native.Mathlib.Omega.{arith}
use Rattle.decimals.specs.Decimal.{space, line_feed, digits, field}
use Rattle.records.specs.Ascii.{ascii}
use Rattle.records.specs.Layout.{said, refused}
use Rattle.records_730.specs.declared.Record730.{Record730}
use Rattle.decimals.proofs.Decimal.{length_digits}
use Rattle.decimals.specs.Put.{Put}
use Rattle.unit_line.specs.Line.{point, amount, line}

pub amount_pieces : (n : ℕ) → amount n space ≡ field (n / 1000) point ++ (digits 3 (n % 1000) ++ (space ∷ []))
unfolding amount
amount_pieces n = refl

pub length_amount : (n : ℕ) → length (amount n space) ≡ length (field (n / 1000) point) + 4
length_amount n =
    let d = digits 3 (n % 1000) in
    rw (amount_pieces n) (omega (arith, length-append (field (n / 1000) point) (d ++ (space ∷ [])), length-append d (space ∷ []), length_digits 3 (n % 1000)))

-- the three decimals, as they are stored
pub put_decimals : {b new : List ℕ} (at n : ℕ) → new ≡ sets b at (digits 3 n) → Put b at (digits 3 n) new (at + 3)
put_decimals at n e = record { bytes = e; place = omega (arith, length_digits 3 n) }

pub row_pieces : (r : Record730) → line (said r) ≡ field r.srtcde space ++ (field r.code space ++ (amount r.cdhoev space ++ field r.cdeenh line_feed))
unfolding line
row_pieces r = refl

pub length_row : (r : Record730) → length (line (said r)) ≡ length (field r.srtcde space) + (length (field r.code space) + (length (amount r.cdhoev space) + length (field r.cdeenh line_feed)))
length_row r = rw (row_pieces r, length-append (field r.srtcde space), length-append (field r.code space), length-append (amount r.cdhoev space))

pub refused_pieces : (n : ℕ) → line (refused n) ≡ ascii "refused " ++ field n line_feed
unfolding line
refused_pieces n = refl

pub length_refused : (n : ℕ) → length (line (refused n)) ≡ 8 + length (field n line_feed)
length_refused n = rw (refused_pieces n) (length-append (ascii "refused ") (field n line_feed))
