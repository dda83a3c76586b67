-- The unit list of an input: its records and their lines (document 01, "Record 730"). Assumes nothing.
use Rattle.std.specs.Prelude.{ℕ, Bool, cond, ◌&&◌, List, [], ◌∷◌, ◌++◌, eqb}
use Rattle.records.specs.File.{reading}
use Rattle.records_730.specs.File730.{file_730}
use Rattle.decimals.specs.Decimal.{line_feed}
use Rattle.unit_line.specs.Line.{line}

abbrev pub carriage_return : ℕ
carriage_return = 13

abbrev pub crlf : ℕ → ℕ → Bool
crlf c d = eqb c carriage_return && eqb d line_feed

-- the texts that stand before a CR LF, and the text after the last one
pub record Split : Type 0 where
  pub ended : List (List ℕ)
  pub rest : List ℕ

abbrev pub ending : List ℕ → Split → Split
ending t p = record { ended = t ∷ p.ended; rest = p.rest }

-- a text in front of the first
abbrev pub onto : List ℕ → List (List ℕ) → List ℕ → Split
onto t [] rest = record { ended = []; rest = t ++ rest }
onto t (r ∷ rs) rest = record { ended = (t ++ r) ∷ rs; rest = rest }

-- only CR LF ends a record: a CR or a LF alone is one of its characters
unfoldable pub split : List ℕ → Split
split [] = record { ended = []; rest = [] }
split (c ∷ []) = record { ended = []; rest = c ∷ [] }
split (c ∷ d ∷ s) = cond (crlf c d) (ending [] (split s)) (onto (c ∷ []) (split (d ∷ s)).ended (split (d ∷ s)).rest)

-- a last one without CR LF is treated alike unless it is empty
abbrev pub unless_empty : List ℕ → List (List ℕ)
unless_empty [] = []
unless_empty (c ∷ t) = (c ∷ t) ∷ []

unfoldable pub records_of : List ℕ → List (List ℕ)
records_of s = (split s).ended ++ unless_empty (split s).rest

unfoldable pub line_of : List ℕ → List ℕ
line_of t = line (reading file_730 t)

unfoldable pub lines_of : List (List ℕ) → List ℕ
lines_of [] = []
lines_of (t ∷ ts) = line_of t ++ lines_of ts

unfoldable pub unit_list : List ℕ → List ℕ
unit_list s = lines_of (records_of s)
