-- The list machine: the text of the record that has begun, what feeding and finishing do with it, and what is kept of it. Assumes nothing.
use Rattle.std.specs.Prelude.{ℕ, suc, ◌+◌, ◌-◌, cond, List, [], ◌∷◌, ◌++◌, length, get_or, take, drop, replicate, ltb, leb, Option, Some, None}
use Rattle.std.proofs.lemmas.List.Edits.{sets}
use Rattle.unit_lines.specs.Records.{crlf, Split, ending, line_of, lines_of, unless_empty}
use Rattle.unit_lines.specs.declared.text.ListMachine.{ListMachine}

abbrev pub last_of : List ℕ → ℕ
last_of t = get_or t (length t - 1) 0

abbrev pub but_last : List ℕ → List ℕ
but_last t = take (length t - 1) t

-- the split of a text that has begun and of what follows it, character by character
unfoldable pub go_on : List ℕ → List ℕ → Split
go_on t [] = record { ended = []; rest = t }
go_on t (c ∷ s) = cond (crlf (last_of t) c) (ending (but_last t) (go_on [] s)) (go_on (t ++ (c ∷ [])) s)

-- how many characters stand before the LF that ends the record, the character before them being p; all of them where none ends it
unfoldable pub end_in : ℕ → List ℕ → ℕ
end_in p [] = 0
end_in p (c ∷ s) = cond (crlf p c) 0 (suc (end_in c s))

-- the place of that LF in an input, looked for from a place on
abbrev pub end_from : ℕ → List ℕ → ℕ → Option ℕ
end_from p s from = cond (ltb (from + end_in p (drop from s)) (length s)) (Some (from + end_in p (drop from s))) None

-- 6 and 8 digits, 9 digits with a point and three decimals, 6 digits, three spaces and the line feed
abbrev pub longest_line : ℕ
longest_line = 37

-- what feeding does: the characters taken, the lines written, the text held after it
pub record Run : Type 0 where
  pub taken : ℕ
  pub written : List ℕ
  pub held : List ℕ

abbrev pub stopped : List ℕ → Run
stopped t = record { taken = 0; written = []; held = t }

abbrev pub after : ℕ → List ℕ → Run → Run
after k l r = record { taken = k + r.taken; written = l ++ r.written; held = r.held }

-- feeding goes on until the input is used up or the room is less than a longest line
unfoldable pub run : ℕ → List ℕ → List ℕ → Run
run room t [] = stopped t
run room t (c ∷ s) =
    cond (ltb room longest_line) (stopped t)
    (cond (crlf (last_of t) c)
    (after 1 (line_of (but_last t)) (run (room - length (line_of (but_last t))) [] s))
    (after 1 [] (run room (t ++ (c ∷ [])) s)))

-- finishing: the text held is the last record unless it is empty
unfoldable pub last_line : ℕ → List ℕ → List ℕ
last_line room t = cond (ltb room longest_line) [] (lines_of (unless_empty t))

-- a record of 64 characters and CR LF
abbrev pub kept_most : ℕ
kept_most = 66

-- of a longer text the first 65 characters and the last are kept: enough to refuse it, and to see that a CR LF ends it
unfoldable pub shrunk : List ℕ → List ℕ
shrunk t = cond (leb (length t) kept_most) t (take 65 t ++ (last_of t ∷ []))

abbrev pub text_of : ListMachine → List ℕ
text_of m = take m.len m.bytes

abbrev pub no_bytes : List ℕ
no_bytes = replicate kept_most 0

unfoldable pub keep : List ℕ → ListMachine
keep t = record { bytes = sets no_bytes 0 (shrunk t); len = length (shrunk t) }
