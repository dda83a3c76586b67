-- Examples, computed from the definitions: document 01's own record and a row of file 070 read, buffers written to, and each damage. Assumes nothing.
use Prim.Native.Nat.{ℕ}
use mathlib.Core.List.{List, [], ◌∷◌, ◌++◌}
use mathlib.Core.Path.{◌≡◌, refl}
use native.Mathlib.Omega.{arith}
use lib.ListN.{replicate}
use Rattle.numbers.specs.Words.{word, long, word_bytes}
use Rattle.decimals.specs.Decimal.{space, decimals, decimal, field}
use Rattle.decimals.proofs.Decimal.{decimal_more}
use Rattle.records.specs.Ascii.{ascii}
use Rattle.records.specs.Digits.{chars}
use Rattle.records.specs.File.{reading, writing, leaves}
use Rattle.records.specs.Layout.{every, values, numbers, scan, fits, answer, leaving}
use Rattle.records.specs.Numbers.{read_numbers}
use Rattle.records_730.specs.File730.{file_730}
use Rattle.records_070.specs.File070.{file_070}
use Rattle.call_lines.specs.Lines.{front, spaced, read_line, hex, write_line}
use Rattle.call_stream.specs.Calls.{whole, more, broken, found}
use Rattle.call_stream.specs.Lines.{broken_line, line_of, last_line}
use Rattle.call_stream.specs.declared.calls.FileNumber.TheVariants.{File070}
use Rattle.call_stream.specs.declared.calls.Asked.TheVariants.{Reads}

-- the file, what is asked, the length
front_of : ℕ → ℕ → ℕ → List ℕ
front_of file what n = word_bytes file ++ (word_bytes what ++ word_bytes n)

-- HPK 216267, 20,000 DR
haldol : List ℕ
haldol = front_of 730 0 64 ++ (ascii "073001850000001002162670000000200000002000303" ++ replicate 19 32)

haldol_line : line_of (found haldol) haldol ≡ ascii "0 0 1 216267 20000 303" ++ (10 ∷ [])
unfolding front_of haldol word_bytes word found line_of read_line spaced field decimal decimals file_730 reading scan every numbers values
haldol_line = refl

-- HPK 709050, PRK 65919, GPK 111368, of file 070
mixtard : List ℕ
mixtard = front_of 70 0 64 ++ (ascii "00700007090500006591900000100111368000003000003" ++ replicate 17 32)

-- computed whole, 709050 nests too deep: its last digit apart, and so the line in parts
hpk_tenth : decimal 70905 ≡ ascii "70905"
unfolding decimal decimals
hpk_tenth = refl

hpk : field 709050 space ≡ ascii "709050 "
unfolding field
hpk = rw (decimal_more 709050 (omega arith), hpk_tenth)

mixtard_found : found mixtard ≡ whole (record { file = File070; asked = Reads; bytes = 64 })
unfolding front_of mixtard word_bytes word found
mixtard_found = refl

mixtard_read : read_numbers file_070 (reading file_070 (chars mixtard front 64)) ≡ 0 ∷ 0 ∷ 709050 ∷ 65919 ∷ 1 ∷ 111368 ∷ 3 ∷ 3 ∷ []
unfolding front_of mixtard word_bytes file_070 reading scan every numbers values
mixtard_read = refl

behind_hpk : spaced 65919 (1 ∷ 111368 ∷ 3 ∷ 3 ∷ []) ≡ ascii "65919 1 111368 3 3" ++ (10 ∷ [])
unfolding spaced field decimal decimals
behind_hpk = refl

before_hpk : field 0 space ≡ ascii "0 "
unfolding field decimal decimals
before_hpk = refl

mixtard_shown : read_line (0 ∷ 0 ∷ 709050 ∷ 65919 ∷ 1 ∷ 111368 ∷ 3 ∷ 3 ∷ []) ≡ ascii "0 0 709050 65919 1 111368 3 3" ++ (10 ∷ [])
unfolding read_line spaced
mixtard_shown = rw (before_hpk, hpk, behind_hpk)

mixtard_line : line_of (found mixtard) mixtard ≡ ascii "0 0 709050 65919 1 111368 3 3" ++ (10 ∷ [])
unfolding line_of
mixtard_line = rw (mixtard_found, mixtard_read) mixtard_shown

-- a refusal's number alone
short : List ℕ
short = front_of 730 0 3 ++ ascii "073"

short_line : line_of (found short) short ≡ ascii "201" ++ (10 ∷ [])
unfolding front_of short word_bytes word found line_of read_line spaced field decimal decimals file_730 reading scan
short_line = refl

-- place 0 and a record of zeros, to a buffer of one byte and to none
zeros : List ℕ → List ℕ
zeros buffer = replicate 32 0 ++ buffer

no_room : List ℕ
no_room = front_of 730 1 1 ++ zeros (175 ∷ [])

no_room_line : line_of (found no_room) no_room ≡ ascii "206 af" ++ (10 ∷ [])
unfolding front_of zeros no_room word_bytes word long found line_of write_line hex field decimal decimals file_730 writing leaves leaving answer fits
no_room_line = refl

no_buffer : List ℕ
no_buffer = front_of 730 1 0 ++ zeros []

no_buffer_line : line_of (found no_buffer) no_buffer ≡ ascii "206 " ++ (10 ∷ [])
unfolding front_of zeros no_buffer word_bytes word long found line_of write_line hex field decimal decimals file_730 writing leaves leaving answer fits
no_buffer_line = refl

-- a record of file 070, to a buffer of one byte: its last number too wide, and as wide as it may be
wide : List ℕ → List ℕ
wide last = front_of 70 1 1 ++ (replicate 8 0 ++ (word_bytes 3 ++ (word_bytes 99999999 ++ (word_bytes 2 ++ (word_bytes 3 ++ (word_bytes 4 ++ (word_bytes 5 ++ (last ++ (175 ∷ [])))))))))

wide_line : (line_of (found (wide (word_bytes 1000000))) (wide (word_bytes 1000000)) ≡ ascii "205 af" ++ (10 ∷ [])) × (line_of (found (wide (word_bytes 999999))) (wide (word_bytes 999999)) ≡ ascii "206 af" ++ (10 ∷ []))
unfolding front_of wide word_bytes word long found line_of write_line hex field decimal decimals file_070 writing leaves leaving answer fits
wide_line = (refl, refl)

-- another file, neither 0 nor 1, and more than 4,096 bytes; 4,096 bytes are no damage
damaged : (found (front_of 731 0 64) ≡ broken)
    × (found (front_of 730 2 64) ≡ broken)
    × (found (front_of 70 2 64) ≡ broken)
    × (found (front_of 730 0 4_097) ≡ broken)
    × (found (front_of 730 1 4_096) ≡ more)
    × (found (front_of 70 1 4_096) ≡ more)
unfolding front_of word_bytes word found
damaged = (refl, refl, refl, refl, refl, refl)

-- a stream may end before a call, and not inside one
ended : (last_line [] ≡ []) × (last_line (front_of 730 0 64) ≡ ascii "broken" ++ (10 ∷ []))
unfolding front_of word_bytes last_line broken_line
ended = (refl, refl)
