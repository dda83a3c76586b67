-- What an entry gets over the tables of its case. Assumes nothing.
use Prim.Native.Nat.{ℕ}
use mathlib.Core.List.{List}
use mathlib.Core.Path.{◌≡◌, refl}
use Rattle.guideline.specs.Bytes.{Lents, spelled}
use Rattle.guideline.specs.declared.entries.Entry.{Entry}
use Rattle.stream.specs.Cases.{tables_of, entry_of, wanted_of}
use Rattle.stream.specs.declared.cases.Form.{Form}
use Rattle.stream.specs.declared.cases.Form.TheVariants.{Single, Range}
use Rattle.stream.specs.declared.cases.Wanted.{Wanted}
use Rattle.case_lines.specs.Lines.{answer_line, range_lines, lines_of}

-- what is written for an entry, over tables and of an entry that are those of the case
module _ (f : Form) (b : List ℕ) (i : ℕ) {t : Lents} {e : Entry} where
  pub single_lines : f ≡ Single → t ≡ tables_of b → e ≡ entry_of f b i → answer_line (spelled t) e ≡ lines_of f b i
  unfolding lines_of
  single_lines p q r = rw (q, r, p) refl

  pub range_lines_of : {w : Wanted} → f ≡ Range → t ≡ tables_of b → e ≡ entry_of f b i → w ≡ wanted_of b i → range_lines (spelled t) e w ≡ lines_of f b i
  unfolding lines_of
  range_lines_of p q r s = rw (q, r, p, s) refl
