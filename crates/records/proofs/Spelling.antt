-- What a layout writes: how long it is, and that storing its parts one after the other stores it. Assumes nothing.
use mathlib.Core.List.{List, [], ◌∷◌}
use mathlib.Core.Path.{◌≡◌, refl}
use lib.ListN.{length, length-append}
use Rattle.records.specs.Layout.{Part, text, mutation, number, Value, Values, width, total, spelt, spell}
use Rattle.decimals.proofs.Decimal.{length_digits}

pub length_spelt : (p : Part) (v : Value p) → length (spelt p v) ≡ width p
length_spelt (text t) v = refl
length_spelt mutation v = length_digits 1 v
length_spelt (number k) v = length_digits k v

pub length_spell : (ps : List Part) (v : Values ps) → length (spell ps v) ≡ total ps
unfolding spell
length_spell [] v = refl
length_spell (p ∷ ps) v = rw (length-append (spelt p v.0) (spell ps v.1), length_spelt p v.0, length_spell ps v.1)
