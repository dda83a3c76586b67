-- Document 01's numbers for each case of each answer, and what a result says in them. Assumes nothing.
use Rattle.std.specs.Prelude.{ℕ, List, ◌∷◌, Result, Ok, Err}
use Rattle.records.specs.Digits.{unless, digits_only, horner}
use Rattle.records.specs.Layout.{Reading, said, refused, in_order, zeros}
use Rattle.records.specs.File.{File}
use Rattle.records.specs.declared.ReadRefusal.{ReadRefusal}
use Rattle.records.specs.declared.ReadRefusal.TheVariants.{Length, Fixed, Digit, Mutation}
use Rattle.records.specs.declared.WriteRefusal.{WriteRefusal}
use Rattle.records.specs.declared.WriteRefusal.TheVariants.{TooWide, NoRoom}

abbrev pub read_refusal : ReadRefusal → ℕ
read_refusal Length = 201
read_refusal Fixed = 202
read_refusal Digit = 203
read_refusal Mutation = 204

-- what a reader's result says: the record, or the number of the refusal
abbrev pub says : {Record : Type 0} → Result Record ReadRefusal → Reading Record
says (Ok r) = said r
says (Err e) = refused (read_refusal e)

-- the number of a field, where it has digits only
unfoldable pub field_of : List ℕ → Result ℕ ReadRefusal
field_of l = unless (digits_only l) (Err Digit) (Ok (horner 0 l))

-- the refusal (0 where there is none), mutation digit and the other numbers in the file's order: in a refusal all numbers returned are 0
abbrev pub read_numbers : {Record : Type 0} → File Record → Reading Record → List ℕ
read_numbers f (said r) = 0 ∷ in_order f.layout (f.values_of r)
read_numbers f (refused n) = n ∷ zeros f.layout

abbrev pub write_refusal : WriteRefusal → ℕ
write_refusal TooWide = 205
write_refusal NoRoom = 206

-- what a writer answered: 0 where it is done
abbrev pub write_number : Result Unit WriteRefusal → ℕ
write_number (Ok d) = 0
write_number (Err e) = write_refusal e
