-- Examples of file 730, computed from the definitions: document 01's own record, rows that document 004 prints, and one record for each refusal. Documents 000 and 002 print the
-- codes: SRTCDE is 1 for HPK, 2 for PRK, 3 for GPK; units ST 245, ML 233, MG 229, DR 303. A reading is the refusal, mutation digit, SRTCDE, CODE, CDHOEV, CDEENH.
use Prim.Native.Nat.{◌-◌, ◌^◌}
use Prim.Native.String.{String}
use mathlib.Core.List.{[], ◌∷◌}
use mathlib.Core.Path.{◌≡◌, refl}
use lib.ListN.{replicate}
use Rattle.records.specs.Ascii.{ascii, run}
use Rattle.decimals.specs.Decimal.{digits}
use Rattle.records.specs.Layout.{every, values, numbers, scan, fits, spell, answer, leaving}
use Rattle.records.specs.File.{reading, writing, leaves}
use Rattle.records_730.specs.File730.{file_730}
use Rattle.records.specs.Numbers.{read_numbers}
use Rattle.records_730.specs.declared.Record730.{Record730}

nineteen : String
nineteen = "                   "

-- document 01's record; 004: HPK 216267, 20,000 DR
haldol_dr : read_numbers file_730 (reading file_730 (run ("0730" ∷ "0" ∷ "1850" ∷ "000001" ∷ "00216267" ∷ "000000020000" ∷ "0002" ∷ "000303" ∷ nineteen ∷ []))) ≡ 0 ∷ 0 ∷ 1 ∷ 216267 ∷ 20000 ∷ 303 ∷ []
unfolding nineteen file_730 reading scan every numbers values
haldol_dr = refl

-- 004: HPK 216267, 1,000 ML
haldol_ml : read_numbers file_730 (reading file_730 (run ("0730" ∷ "0" ∷ "1850" ∷ "000001" ∷ "00216267" ∷ "000000001000" ∷ "0002" ∷ "000233" ∷ nineteen ∷ []))) ≡ 0 ∷ 0 ∷ 1 ∷ 216267 ∷ 1000 ∷ 233 ∷ []
unfolding nineteen file_730 reading scan every numbers values
haldol_ml = refl

-- 004: HPK 1709925, 1,000 ST, here with mutation digit 3
spidifen_st : read_numbers file_730 (reading file_730 (run ("0730" ∷ "3" ∷ "1850" ∷ "000001" ∷ "01709925" ∷ "000000001000" ∷ "0002" ∷ "000245" ∷ nineteen ∷ []))) ≡ 0 ∷ 3 ∷ 1 ∷ 1709925 ∷ 1000 ∷ 245 ∷ []
unfolding nineteen file_730 reading scan every numbers values
spidifen_st = refl

-- 004: PRK 21806, 0,010 MG
colecalciferol_mg : read_numbers file_730 (reading file_730 (run ("0730" ∷ "0" ∷ "1850" ∷ "000002" ∷ "00021806" ∷ "000000000010" ∷ "0002" ∷ "000229" ∷ nineteen ∷ []))) ≡ 0 ∷ 0 ∷ 2 ∷ 21806 ∷ 10 ∷ 229 ∷ []
unfolding nineteen file_730 reading scan every numbers values
colecalciferol_mg = refl

-- 004: GPK 53015, 400,000 ST, the row that 004 prints beside 1,000 ST
colecalciferol_st : read_numbers file_730 (reading file_730 (run ("0730" ∷ "0" ∷ "1850" ∷ "000003" ∷ "00053015" ∷ "000000400000" ∷ "0002" ∷ "000245" ∷ nineteen ∷ []))) ≡ 0 ∷ 0 ∷ 3 ∷ 53015 ∷ 400000 ∷ 245 ∷ []
unfolding nineteen file_730 reading scan every numbers values
colecalciferol_st = refl

-- 004: HPK 709050, 300,000 IE. The documents print no code for IE: 999998 stands in for it here
mixtard_ie : read_numbers file_730 (reading file_730 (run ("0730" ∷ "0" ∷ "1850" ∷ "000001" ∷ "00709050" ∷ "000000300000" ∷ "0002" ∷ "999998" ∷ nineteen ∷ []))) ≡ 0 ∷ 0 ∷ 1 ∷ 709050 ∷ 300000 ∷ 999998 ∷ []
unfolding nineteen file_730 reading scan every numbers values
mixtard_ie = refl

-- one character short, with another file number and a letter among the digits besides: the length is tested first
short_201 : read_numbers file_730 (reading file_730 (run ("0731" ∷ "0" ∷ "1850" ∷ "000001" ∷ "0021626X" ∷ "000000020000" ∷ "0002" ∷ "00030" ∷ nineteen ∷ []))) ≡ 201 ∷ 0 ∷ 0 ∷ 0 ∷ 0 ∷ 0 ∷ []
unfolding nineteen file_730 reading scan every numbers values
short_201 = refl

-- the last character is no space, and the mutation character is no digit: the fixed parts are tested first
fixed_202 : read_numbers file_730 (reading file_730 (run ("0730" ∷ "A" ∷ "1850" ∷ "000001" ∷ "00216267" ∷ "000000020000" ∷ "0002" ∷ "000303" ∷ "                  ." ∷ []))) ≡ 202 ∷ 0 ∷ 0 ∷ 0 ∷ 0 ∷ 0 ∷ []
unfolding nineteen file_730 reading scan every numbers values
fixed_202 = refl

-- the mutation character is no digit
digit_203 : read_numbers file_730 (reading file_730 (run ("0730" ∷ "A" ∷ "1850" ∷ "000001" ∷ "00216267" ∷ "000000020000" ∷ "0002" ∷ "000303" ∷ nineteen ∷ []))) ≡ 203 ∷ 0 ∷ 0 ∷ 0 ∷ 0 ∷ 0 ∷ []
unfolding nineteen file_730 reading scan every numbers values
digit_203 = refl

-- the mutation digit is above 3, and the unit's last character is no digit: the digits are tested first
digit_first_203 : read_numbers file_730 (reading file_730 (run ("0730" ∷ "4" ∷ "1850" ∷ "000001" ∷ "00216267" ∷ "000000020000" ∷ "0002" ∷ "00030 " ∷ nineteen ∷ []))) ≡ 203 ∷ 0 ∷ 0 ∷ 0 ∷ 0 ∷ 0 ∷ []
unfolding nineteen file_730 reading scan every numbers values
digit_first_203 = refl

-- the mutation digit is above 3
mutation_204 : read_numbers file_730 (reading file_730 (run ("0730" ∷ "4" ∷ "1850" ∷ "000001" ∷ "00216267" ∷ "000000020000" ∷ "0002" ∷ "000303" ∷ nineteen ∷ []))) ≡ 204 ∷ 0 ∷ 0 ∷ 0 ∷ 0 ∷ 0 ∷ []
unfolding nineteen file_730 reading scan every numbers values
mutation_204 = refl

drops : Record730
drops = record { mutation = 0; srtcde = 1; code = 216267; cdhoev = 20000; cdeenh = 303 }

-- in a buffer of 70 points, at place 2
writes_0 : (writing file_730 drops 2 70 ≡ 0)
    × (leaves file_730 drops 2 (replicate 70 46) ≡ run (".." ∷ "0730" ∷ "0" ∷ "1850" ∷ "000001" ∷ "00216267" ∷ "000000020000" ∷ "0002" ∷ "000303" ∷ nineteen ∷ "...." ∷ []))
unfolding drops nineteen file_730 leaves leaving writing answer fits spell digits
writes_0 = (refl, refl)

-- a CODE of nine digits; mutation digit 4
nine : Record730
nine = record { mutation = 0; srtcde = 1; code = 100000000; cdhoev = 20000; cdeenh = 303 }

fourth : Record730
fourth = record { mutation = 4; srtcde = 1; code = 216267; cdhoev = 20000; cdeenh = 303 }

-- in a buffer with no room: too wide is tested first
wide_205 : (writing file_730 nine 0 3 ≡ 205) × (writing file_730 fourth 0 3 ≡ 205) × (leaves file_730 nine 0 (ascii "...") ≡ ascii "...")
unfolding nine fourth file_730 leaves leaving writing answer fits
wide_205 = (refl, refl, refl)

-- one character short; a place at the buffer's end; the largest place, where place + 64 would wrap in 64 bits
room_206 : (writing file_730 drops 1 64 ≡ 206)
    × (writing file_730 drops 64 64 ≡ 206)
    × (writing file_730 drops (2 ^ 64 - 1) 64 ≡ 206)
    × (leaves file_730 drops 1 (replicate 64 46) ≡ replicate 64 46)
unfolding drops file_730 leaves leaving writing answer fits
room_206 = (refl, refl, refl, refl)
