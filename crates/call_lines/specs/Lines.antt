-- The line of a call's answer, and the call's bytes after it: a writer changes the buffer lent to it. Assumes nothing.
use Rattle.std.specs.Prelude.{ℕ, zero, suc, ◌+◌, ◌/◌, ◌%◌, cond, List, [], ◌∷◌, ◌++◌, ltb, take, drop}
use Rattle.numbers.specs.Words.{word, long}
use Rattle.decimals.specs.Decimal.{space, line_feed, field}
use Rattle.records.specs.Digits.{chars}
use Rattle.records.specs.File.{File, reading, writing, leaves}
use Rattle.records.specs.Numbers.{read_numbers}
use Rattle.records_730.specs.File730.{file_730}
use Rattle.records_730.specs.declared.Record730.{Record730}
use Rattle.records_070.specs.File070.{file_070}
use Rattle.records_070.specs.declared.Record070.{Record070}

-- in bytes: the three numbers in front, those in front of a buffer that a file writes to, and the most that are read or lent
abbrev pub front : ℕ
front = 12

abbrev pub front_730 : ℕ
front_730 = 44

abbrev pub front_070 : ℕ
front_070 = 48

abbrev pub most_bytes : ℕ
most_bytes = 4_096

-- room for any number, the largest buffer in hexadecimal and a line feed
abbrev pub longest_line : ℕ
longest_line = 8_214

-- numbers in decimal, one space between
unfoldable pub spaced : ℕ → List ℕ → List ℕ
spaced n [] = field n line_feed
spaced n (m ∷ l) = field n space ++ spaced m l

-- a refusal's number alone, or 0 and all numbers
unfoldable pub read_line : List ℕ → List ℕ
read_line [] = []
read_line (zero ∷ l) = spaced 0 l
read_line (suc n ∷ l) = spaced (suc n) []

-- lowercase hexadecimal: 48 is 0, and 97 is a
abbrev pub hex_digit : ℕ → ℕ
hex_digit d = cond (ltb d 10) (48 + d) (87 + d)

unfoldable pub hex : List ℕ → List ℕ
hex [] = []
hex (b ∷ l) = hex_digit (b / 16) ∷ hex_digit (b % 16) ∷ hex l

-- the answer's number, and the whole buffer afterwards
unfoldable pub write_line : ℕ → List ℕ → List ℕ
write_line n buffer = field n space ++ (hex buffer ++ (line_feed ∷ []))

-- the place and the record that a call writes, in the file's order; 64 bits for the place and CDHOEV
abbrev pub place_of : List ℕ → ℕ
place_of s = long s 12

abbrev pub call_730 : List ℕ → Record730
call_730 s = record { mutation = word s 20; srtcde = word s 24; code = word s 28; cdhoev = long s 32; cdeenh = word s 40 }

abbrev pub call_070 : List ℕ → Record070
call_070 s =
    record { mutation = word s 20; hpkode = word s 24; prkode = word s 28; hpanpr = word s 32; gpkode = word s 36; prangp = word s 40; hpangp = word s 44 }

-- the line of a call that reads n bytes
abbrev pub read_call : {Record : Type 0} → File Record → List ℕ → ℕ → List ℕ
read_call f s n = read_line (read_numbers f (reading f (chars s front n)))

-- of a call that writes a record: the n bytes lent behind its numbers, after the call; its line; and all its bytes
abbrev pub written : {Record : Type 0} → File Record → Record → ℕ → List ℕ → ℕ → List ℕ
written f r before s n = leaves f r (place_of s) (chars s before n)

abbrev pub write_call : {Record : Type 0} → File Record → Record → ℕ → List ℕ → ℕ → List ℕ
write_call f r before s n = write_line (writing f r (place_of s) n) (written f r before s n)

abbrev pub left_call : {Record : Type 0} → File Record → Record → ℕ → List ℕ → ℕ → List ℕ
left_call f r before s n = take before s ++ (written f r before s n ++ drop n (drop before s))

abbrev pub write_730 : List ℕ → ℕ → List ℕ
write_730 s n = write_call file_730 (call_730 s) front_730 s n

abbrev pub left_730 : List ℕ → ℕ → List ℕ
left_730 s n = left_call file_730 (call_730 s) front_730 s n

abbrev pub write_070 : List ℕ → ℕ → List ℕ
write_070 s n = write_call file_070 (call_070 s) front_070 s n

abbrev pub left_070 : List ℕ → ℕ → List ℕ
left_070 s n = left_call file_070 (call_070 s) front_070 s n
