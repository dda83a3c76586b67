-- Examples of file 070, computed from the definitions: the five rows that document 004 prints, read and written, and one record for each refusal.
use Prim.Native.Nat.{ℕ}
use Prim.Native.String.{String}
use mathlib.Core.List.{List, [], ◌∷◌}
use mathlib.Core.Path.{◌≡◌, refl}
use lib.ListN.{replicate}
use Rattle.records.specs.Ascii.{run}
use Rattle.decimals.specs.Decimal.{digits}
use Rattle.records.specs.Layout.{said, every, values, numbers, scan, fits, spell, answer, leaving}
use Rattle.records.specs.File.{reading, chars_of, writing, leaves}
use Rattle.records_070.specs.File070.{file_070}
use Rattle.records.specs.Numbers.{read_numbers}
use Rattle.records_070.specs.declared.Record070.{Record070}

abbrev seventeen : String
seventeen = "                 "

-- HPK, PRK, PRK in HPK, GPK, GPK in PRK, GPK in HPK
abbrev row : (hpk prk prk-in-hpk gpk gpk-in-prk gpk-in-hpk : ℕ) → Record070
row hpk prk prk-in-hpk gpk gpk-in-prk gpk-in-hpk =
    record { mutation = 0; hpkode = hpk; prkode = prk; hpanpr = prk-in-hpk; gpkode = gpk; prangp = gpk-in-prk; hpangp = gpk-in-hpk }

-- the characters are read as the record, and the record writes the characters
abbrev Both : List ℕ → Record070 → Type 0
Both s r = (reading file_070 s ≡ said r) × (chars_of file_070 r ≡ s)

spidifen : Both (run ("0070" ∷ "0" ∷ "01709925" ∷ "00076686" ∷ "000001" ∷ "00122858" ∷ "000001" ∷ "000001" ∷ seventeen ∷ [])) (row 1709925 76686 1 122858 1 1)
unfolding file_070 reading scan every numbers values chars_of spell digits
spidifen = (refl, refl)

haldol : Both (run ("0070" ∷ "0" ∷ "00216267" ∷ "00005541" ∷ "000001" ∷ "00016004" ∷ "000001" ∷ "000001" ∷ seventeen ∷ [])) (row 216267 5541 1 16004 1 1)
unfolding file_070 reading scan every numbers values chars_of spell digits
haldol = (refl, refl)

mixtard : Both (run ("0070" ∷ "0" ∷ "00709050" ∷ "00065919" ∷ "000001" ∷ "00111368" ∷ "000003" ∷ "000003" ∷ seventeen ∷ [])) (row 709050 65919 1 111368 3 3)
unfolding file_070 reading scan every numbers values chars_of spell digits
mixtard = (refl, refl)

adrovance : Both (run ("0070" ∷ "0" ∷ "01927043" ∷ "00079803" ∷ "000001" ∷ "00124575" ∷ "000001" ∷ "000001" ∷ seventeen ∷ [])) (row 1927043 79803 1 124575 1 1)
unfolding file_070 reading scan every numbers values chars_of spell digits
adrovance = (refl, refl)

devaron : Both (run ("0070" ∷ "0" ∷ "00551805" ∷ "00021806" ∷ "000001" ∷ "00053015" ∷ "000001" ∷ "000001" ∷ seventeen ∷ [])) (row 551805 21806 1 53015 1 1)
unfolding file_070 reading scan every numbers values chars_of spell digits
devaron = (refl, refl)

-- the six numbers apart, with mutation digit 3; 0 is in range
each_number : read_numbers file_070 (reading file_070 (run ("0070" ∷ "3" ∷ "00000001" ∷ "00000002" ∷ "000003" ∷ "00000004" ∷ "000005" ∷ "000000" ∷ seventeen ∷ []))) ≡ 0 ∷ 3 ∷ 1 ∷ 2 ∷ 3 ∷ 4 ∷ 5 ∷ 0 ∷ []
unfolding file_070 reading scan every numbers values
each_number = refl

-- one character short, and a space among the digits: the length is tested first
short_201 : read_numbers file_070 (reading file_070 (run ("0070" ∷ "0" ∷ "0021626 " ∷ "00005541" ∷ "000001" ∷ "00016004" ∷ "000001" ∷ "00001" ∷ seventeen ∷ []))) ≡ 201 ∷ 0 ∷ 0 ∷ 0 ∷ 0 ∷ 0 ∷ 0 ∷ 0 ∷ []
unfolding file_070 reading scan
short_201 = refl

-- the character at 48, which the paper leaves undescribed, is no space, and the mutation character is no digit: the fixed parts are tested first
fixed_202 : read_numbers file_070 (reading file_070 (run ("0070" ∷ "A" ∷ "00216267" ∷ "00005541" ∷ "000001" ∷ "00016004" ∷ "000001" ∷ "000001" ∷ "0                " ∷ []))) ≡ 202 ∷ 0 ∷ 0 ∷ 0 ∷ 0 ∷ 0 ∷ 0 ∷ 0 ∷ []
unfolding file_070 reading scan every
fixed_202 = refl

-- the mutation digit is above 3, and the last count's last character is no digit: the digits are tested first
digit_203 : read_numbers file_070 (reading file_070 (run ("0070" ∷ "4" ∷ "00216267" ∷ "00005541" ∷ "000001" ∷ "00016004" ∷ "000001" ∷ "00000 " ∷ seventeen ∷ []))) ≡ 203 ∷ 0 ∷ 0 ∷ 0 ∷ 0 ∷ 0 ∷ 0 ∷ 0 ∷ []
unfolding file_070 reading scan every numbers
digit_203 = refl

mutation_204 : read_numbers file_070 (reading file_070 (run ("0070" ∷ "4" ∷ "00216267" ∷ "00005541" ∷ "000001" ∷ "00016004" ∷ "000001" ∷ "000001" ∷ seventeen ∷ []))) ≡ 204 ∷ 0 ∷ 0 ∷ 0 ∷ 0 ∷ 0 ∷ 0 ∷ 0 ∷ []
unfolding file_070 reading scan every numbers
mutation_204 = refl

-- in a buffer of 70 points, at place 2
writes_0 : (writing file_070 (row 709050 65919 1 111368 3 3) 2 70 ≡ 0)
    × (leaves file_070 (row 709050 65919 1 111368 3 3) 2 (replicate 70 46) ≡ run (".." ∷ "0070" ∷ "0" ∷ "00709050" ∷ "00065919" ∷ "000001" ∷ "00111368" ∷ "000003" ∷ "000003" ∷ seventeen ∷ "...." ∷ []))
unfolding file_070 leaves leaving writing answer fits spell digits
writes_0 = (refl, refl)

-- a HPK of nine digits and a count of seven, in a buffer with no room: too wide is tested first
wide_205 : (writing file_070 (row 100000000 65919 1 111368 3 3) 0 3 ≡ 205) × (writing file_070 (row 709050 65919 1 111368 3 1000000) 0 3 ≡ 205)
unfolding file_070 writing answer fits
wide_205 = (refl, refl)

-- one character short
room_206 : (writing file_070 (row 709050 65919 1 111368 3 3) 1 64 ≡ 206) × (leaves file_070 (row 709050 65919 1 111368 3 3) 1 (replicate 64 46) ≡ replicate 64 46)
unfolding file_070 leaves leaving writing answer fits
room_206 = (refl, refl)
