-- A text in quotation marks as the characters that it holds, and texts run together. Assumes nothing.
use Rattle.std.specs.Prelude.{ℕ, List, [], ◌∷◌, ◌++◌, replicate}
use Prim.Native.Char.{code}
use Prim.Native.String.{String, [] as empty, ◌∷◌ as ◌then◌}

abbrev pub ascii : String → List ℕ
ascii empty = []
ascii (c then s) = code c ∷ ascii s

abbrev pub run : List String → List ℕ
run [] = []
run (s ∷ l) = ascii s ++ run l

abbrev pub spaces : ℕ → List ℕ
spaces k = replicate k 32
