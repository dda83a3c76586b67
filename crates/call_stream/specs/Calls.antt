-- Where a call ends. In front stand the file, what is asked (0 reads, 1 writes) and how many bytes are read or lent, as numbers of 32 bits. Assumes nothing.
use Rattle.std.specs.Prelude.{ℕ, ◌+◌, cond, List, eqb, leb, length, Option, Some, None, Result, Ok, Err}
use Rattle.numbers.specs.Words.{word}
use Rattle.call_lines.specs.Lines.{front, front_730, front_070, most_bytes}
use Rattle.call_stream.specs.declared.calls.FileNumber.{FileNumber}
use Rattle.call_stream.specs.declared.calls.FileNumber.TheVariants.{File730, File070}
use Rattle.call_stream.specs.declared.calls.Asked.{Asked}
use Rattle.call_stream.specs.declared.calls.Asked.TheVariants.{Reads, Writes}
use Rattle.call_stream.specs.declared.calls.Call.{Call}
use Rattle.call_stream.specs.declared.calls.NoCall.{NoCall}

-- in bytes
abbrev pub longest_call : ℕ
longest_call = 4_144

-- the bytes gathered so far begin with a whole call, with a part of one, or with what is none
abbrev pub Found : Type 0
Found = Result (Option Call) NoCall

abbrev pub whole : Call → Found
whole c = Ok (Some c)

abbrev pub more : Found
more = Ok None

abbrev pub broken : Found
broken = Err (record {})

abbrev pub file_of : ℕ → Result FileNumber NoCall
file_of n = cond (eqb n 730) (Ok File730) (cond (eqb n 70) (Ok File070) (Err (record {})))

abbrev pub asked_by : ℕ → Result Asked NoCall
asked_by n = cond (eqb n 0) (Ok Reads) (cond (eqb n 1) (Ok Writes) (Err (record {})))

-- how many bytes stand in front of those that are read or lent
abbrev pub front_of : FileNumber → Asked → ℕ
front_of file Reads = front
front_of File730 Writes = front_730
front_of File070 Writes = front_070

abbrev pub call_length : Call → ℕ
call_length c = front_of c.file c.asked + c.bytes

-- a whole call where its bytes are there
abbrev pub reached : Call → ℕ → Found
reached c have = cond (leb (call_length c) have) (whole c) more

-- what is asked of a file, with n bytes read or lent
abbrev pub asks : Result FileNumber NoCall → Result Asked NoCall → ℕ → ℕ → Found
asks (Ok file) (Ok asked) n have = reached (record { file = file; asked = asked; bytes = n }) have
asks (Ok file) (Err e) n have = Err e
asks (Err e) asked n have = Err e

unfoldable pub found : List ℕ → Found
found s =
    cond (leb front (length s))
    (cond (leb (word s 8) most_bytes) (asks (file_of (word s 0)) (asked_by (word s 4)) (word s 8) (length s)) broken)
    more
