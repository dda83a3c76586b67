-- No line is longer than the longest: a number that was read has at most the digits of its field. Assumes nothing.
use Prim.Native.Nat.{ℕ, ◌/◌, ◌≤◌}
use mathlib.Core.List.{List}
use mathlib.Core.Path.{◌≡◌, refl}
use native.Mathlib.Omega.{arith}
use lib.ListN.{length}
use Rattle.records.specs.File.{reading}
use Rattle.records.specs.Layout.{Reading, said, refused}
use Rattle.records_730.specs.declared.Record730.{Record730}
use Rattle.records_730.specs.File730.{file_730}
use Rattle.records_730.proofs.Laws.{holds_730, Bounds730, read_bounds_730}
use Rattle.decimals.specs.Decimal.{space, line_feed}
use Rattle.unit_line.specs.Line.{point, line}
use Rattle.unit_lines.specs.Records.{line_of}
use Rattle.unit_lines.specs.Machine.{longest_line}
use Rattle.decimals.proofs.Decimal.{field_most}
use Rattle.unit_line.proofs.Pieces.{length_row, length_amount, length_refused}

row_most : (r : Record730) → Bounds730 r → length (line (said r)) ≤ longest_line
row_most r b =
    let h = b.cdhoev in
    omega (
      arith,
      length_row r,
      length_amount r.cdhoev,
      field_most 5 r.srtcde space b.srtcde,
      field_most 7 r.code space b.code,
      field_most 8 (r.cdhoev / 1000) point (omega arith),
      field_most 5 r.cdeenh line_feed b.cdeenh,
    )

most : (v : Reading Record730) → ((r : Record730) → v ≡ said r → Bounds730 r) → ((n : ℕ) → v ≡ refused n → n ≤ 204) → length (line v) ≤ longest_line
most (said r) f g = row_most r (f r refl)
most (refused n) f g =
    let h : n ≤ 204 = g n refl in
    omega (arith, length_refused n, field_most 2 n line_feed (omega arith))

pub longest : (t : List ℕ) → length (line_of t) ≤ longest_line
unfolding line_of
longest t = most (reading file_730 t) (λ r e. read_bounds_730 t r e) (λ n e. (holds_730.refusal_bounds t n e).1)
