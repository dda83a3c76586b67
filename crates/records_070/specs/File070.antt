-- File 070 (document 004, BST070T; document 02, P5): its layout and its record. Assumes nothing.
use Rattle.std.specs.Prelude.{List, [], ◌∷◌, refl}
use Rattle.records.specs.Ascii.{ascii, spaces}
use Rattle.records.specs.Layout.{Part, text, mutation, number, Values}
use Rattle.records.specs.File.{File}
use Rattle.records_070.specs.declared.Record070.{Record070}

-- 64 characters. The numbers are HPKODE at 6 to 13, PRKODE 14 to 21, HPANPR 22 to 27, GPKODE 28 to 35, PRANGP 36 to 41 and HPANGP 42 to 47; spaces from 48 on.
abbrev pub layout_070 : List Part
layout_070 =
    text (ascii "0070")
    ∷ mutation
    ∷ number 8
    ∷ number 8
    ∷ number 6
    ∷ number 8
    ∷ number 6
    ∷ number 6
    ∷ text (spaces 17)
    ∷ []

abbrev pub record_070 : Values layout_070 → Record070
record_070 (_, (m, (h, (p, (hp, (g, (pg, (hg, _)))))))) = record { mutation = m; hpkode = h; prkode = p; hpanpr = hp; gpkode = g; prangp = pg; hpangp = hg }

abbrev pub values_070 : Record070 → Values layout_070
values_070 r = (tt, (r.mutation, (r.hpkode, (r.prkode, (r.hpanpr, (r.gpkode, (r.prangp, (r.hpangp, (tt, tt)))))))))

unfoldable pub file_070 : File Record070
file_070 = record { layout = layout_070; record_of = record_070; values_of = values_070; values_back = λ v. refl; record_back = λ r. refl }
