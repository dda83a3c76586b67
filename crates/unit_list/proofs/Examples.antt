-- Examples, computed from the definition of the unit list: document 01's own record, and where records end. Assumes nothing.
use Prim.Native.Nat.{ℕ}
use mathlib.Core.List.{List, [], ◌∷◌, ◌++◌}
use mathlib.Core.Path.{◌≡◌, refl}
use lib.ListN.{replicate}
use Rattle.records.specs.Ascii.{ascii}
use Rattle.records.specs.File.{reading}
use Rattle.records.specs.Layout.{every, values, numbers, scan}
use Rattle.records_730.specs.File730.{file_730}
use Rattle.decimals.specs.Decimal.{decimal, decimals, digits, field}
use Rattle.unit_line.specs.Line.{amount, line}
use Rattle.unit_lines.specs.Records.{split, records_of, line_of, lines_of, unit_list}

-- HPK 216267, 20,000 DR (004): 0730, 0, 1850, 000001, 00216267, 000000020000, 0002, 000303 and 19 spaces, run together
haldol : List ℕ
haldol = ascii "073001850000001002162670000000200000002000303" ++ replicate 19 32

-- GPK 53015, 0,010 MG (004)
colecalciferol : List ℕ
colecalciferol = ascii "073001850000003000530150000000000100002000229" ++ replicate 19 32

-- what is printed, with the line feed
haldol_line : List ℕ
haldol_line = ascii "1 216267 20.000 303" ++ (10 ∷ [])

refused_201 : List ℕ
refused_201 = ascii "refused 201" ++ (10 ∷ [])

-- document 01's example
one_record : unit_list (haldol ++ (13 ∷ 10 ∷ [])) ≡ haldol_line
unfolding unit_list records_of split lines_of line_of file_730 reading scan every values numbers line decimal decimals field amount digits haldol colecalciferol haldol_line refused_201
one_record = refl

-- one line for each
two_records : unit_list (haldol ++ (13 ∷ 10 ∷ (colecalciferol ++ (13 ∷ 10 ∷ [])))) ≡ haldol_line ++ (ascii "3 53015 0.010 229" ++ (10 ∷ []))
unfolding unit_list records_of split lines_of line_of file_730 reading scan every values numbers line decimal decimals field amount digits haldol colecalciferol haldol_line refused_201
two_records = refl

-- an empty rest is no record
no_record : unit_list [] ≡ []
unfolding unit_list records_of split lines_of line_of file_730 reading scan every values numbers line decimal decimals field amount digits haldol colecalciferol haldol_line refused_201
no_record = refl

-- an empty record before CR LF is refused
empty_record : unit_list (13 ∷ 10 ∷ []) ≡ refused_201
unfolding unit_list records_of split lines_of line_of file_730 reading scan every values numbers line decimal decimals field amount digits haldol colecalciferol haldol_line refused_201
empty_record = refl

-- a last one without CR LF
last_record : unit_list haldol ≡ haldol_line
unfolding unit_list records_of split lines_of line_of file_730 reading scan every values numbers line decimal decimals field amount digits haldol colecalciferol haldol_line refused_201
last_record = refl

-- a LF alone ends nothing
lone_feed : unit_list (haldol ++ (10 ∷ haldol)) ≡ refused_201
unfolding unit_list records_of split lines_of line_of file_730 reading scan every values numbers line decimal decimals field amount digits haldol colecalciferol haldol_line refused_201
lone_feed = refl

-- nor does a CR alone
lone_return : unit_list (haldol ++ (13 ∷ [])) ≡ refused_201
unfolding unit_list records_of split lines_of line_of file_730 reading scan every values numbers line decimal decimals field amount digits haldol colecalciferol haldol_line refused_201
lone_return = refl

-- CR CR LF ends a record whose last character is CR
two_returns : unit_list (haldol ++ (13 ∷ 13 ∷ 10 ∷ [])) ≡ refused_201
unfolding unit_list records_of split lines_of line_of file_730 reading scan every values numbers line decimal decimals field amount digits haldol colecalciferol haldol_line refused_201
two_returns = refl
