-- The line of each call, and its bytes after it; the lines of a stream that is damaged or ends inside a call. Assumes nothing.
use Rattle.std.specs.Prelude.{ℕ, List, [], ◌∷◌, ◌++◌, Some, None, Ok, Err}
use Rattle.decimals.specs.Decimal.{line_feed}
use Rattle.records.specs.Ascii.{ascii}
use Rattle.records_730.specs.File730.{file_730}
use Rattle.records_070.specs.File070.{file_070}
use Rattle.call_lines.specs.Lines.{read_call, write_730, left_730, write_070, left_070}
use Rattle.call_stream.specs.declared.calls.FileNumber.{FileNumber}
use Rattle.call_stream.specs.declared.calls.FileNumber.TheVariants.{File730, File070}
use Rattle.call_stream.specs.declared.calls.Asked.{Asked}
use Rattle.call_stream.specs.declared.calls.Asked.TheVariants.{Reads, Writes}
use Rattle.call_stream.specs.Calls.{Found}

unfoldable pub broken_line : List ℕ
broken_line = ascii "broken" ++ (line_feed ∷ [])

-- of a call with n bytes read or lent
abbrev pub line_by : FileNumber → Asked → List ℕ → ℕ → List ℕ
line_by File730 Reads s n = read_call file_730 s n
line_by File730 Writes s n = write_730 s n
line_by File070 Reads s n = read_call file_070 s n
line_by File070 Writes s n = write_070 s n

abbrev pub left_by : FileNumber → Asked → List ℕ → ℕ → List ℕ
left_by file Reads s n = s
left_by File730 Writes s n = left_730 s n
left_by File070 Writes s n = left_070 s n

unfoldable pub line_of : Found → List ℕ → List ℕ
line_of (Ok (Some c)) s = line_by c.file c.asked s c.bytes
line_of (Ok None) s = []
line_of (Err e) s = broken_line

unfoldable pub after : Found → List ℕ → List ℕ
after (Ok (Some c)) s = left_by c.file c.asked s c.bytes
after (Ok None) s = s
after (Err e) s = s

-- the stream has ended, and these bytes of it are left
unfoldable pub last_line : List ℕ → List ℕ
last_line [] = []
last_line (b ∷ s) = broken_line
