-- The code's layout as the parts that it means, and a record's values as an array of numbers: one for each part, 0 for a fixed text. Assumes nothing.
use Rattle.std.specs.Prelude.{ℕ, ◌+◌, ◌&&◌, Bool, true, List, [], ◌∷◌, Result, Ok, map, leb, slice_index}
use Rattle.records.specs.Layout.{Part, text, mutation, number, Value, Values}
use Rattle.records.specs.Numbers.{field_of}
use Rattle.records.specs.declared.ReadRefusal.{ReadRefusal}
use Rattle.records.specs.declared.part.Part.{Part as PartCode}
use Rattle.records.specs.declared.part.Part.TheVariants.{Text, Mutation, Number}

abbrev pub part_of : PartCode → Part
part_of (Text t) = text t.now
part_of Mutation = mutation
part_of (Number k) = number k

abbrev pub parts_of : List PartCode → List Part
parts_of l = map part_of l

-- no number of more than 12 digits, which is the widest of the files
abbrev pub narrow_part : Part → Bool
narrow_part (text t) = true
narrow_part mutation = true
narrow_part (number k) = leb k 12

abbrev pub narrow : List Part → Bool
narrow [] = true
narrow (p ∷ ps) = narrow_part p && narrow ps

abbrev pub to_number : (p : Part) → Value p → ℕ
to_number (text t) v = 0
to_number mutation v = v
to_number (number k) v = v

abbrev pub from_number : (p : Part) → ℕ → Value p
from_number (text t) n = tt
from_number mutation n = n
from_number (number k) n = n

abbrev pub to_numbers : (ps : List Part) → Values ps → List ℕ
to_numbers [] v = []
to_numbers (p ∷ ps) v = to_number p v.0 ∷ to_numbers ps v.1

-- the numbers from the place i on
abbrev pub from_numbers : (ps : List Part) → ℕ → List ℕ → Values ps
from_numbers [] i l = tt
from_numbers (p ∷ ps) i l = (from_number p (slice_index l i), from_numbers ps (i + 1) l)

-- the number that a part's characters say: a fixed text says none
abbrev pub number_of : Part → List ℕ → Result ℕ ReadRefusal
number_of (text t) c = Ok 0
number_of mutation c = field_of c
number_of (number k) c = field_of c
