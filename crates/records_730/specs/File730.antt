-- File 730 (document 01, "Record 730"; document 004, BST730T): its layout and its record. Assumes nothing.
use Rattle.std.specs.Prelude.{List, [], ◌∷◌, refl}
use Rattle.records.specs.Ascii.{ascii, spaces}
use Rattle.records.specs.Layout.{Part, text, mutation, number, Values}
use Rattle.records.specs.File.{File}
use Rattle.records_730.specs.declared.Record730.{Record730}

-- 64 characters. The numbers are SRTCDE, CODE, CDHOEV (nine whole, three decimal digits) and CDEENH.
abbrev pub layout_730 : List Part
layout_730 =
    text (ascii "0730")
    ∷ mutation
    ∷ text (ascii "1850")
    ∷ number 6
    ∷ number 8
    ∷ number 12
    ∷ text (ascii "0002")
    ∷ number 6
    ∷ text (spaces 19)
    ∷ []

abbrev pub record_730 : Values layout_730 → Record730
record_730 (_, (m, (_, (s, (c, (h, (_, (e, _)))))))) = record { mutation = m; srtcde = s; code = c; cdhoev = h; cdeenh = e }

abbrev pub values_730 : Record730 → Values layout_730
values_730 r = (tt, (r.mutation, (tt, (r.srtcde, (r.code, (r.cdhoev, (tt, (r.cdeenh, (tt, tt)))))))))

unfoldable pub file_730 : File Record730
file_730 = record { layout = layout_730; record_of = record_730; values_of = values_730; values_back = λ v. refl; record_back = λ r. refl }
