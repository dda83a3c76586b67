-- An input split at its CR LF, character by character: in pieces, and as document 01 splits it. Assumes nothing.
use Prim.Native.Nat.{ℕ, ◌-◌}
use mathlib.Core.Bool.{true, false}
use mathlib.Core.List.{List, [], ◌∷◌, ◌++◌, append_assoc, append-nil}
use mathlib.Core.Path.{◌≡◌, refl, sym, ap, ◌∙◌}
use mathlib.Core.Logic.{⊎_elim}
use native.Mathlib.Omega.{arith}
use lib.ListN.{length, length-append}
use lib.Seq.{get_or-append_seam, take-append_seam}
use Rattle.unit_lines.specs.Records.{crlf, Split, ending, onto, split}
use Rattle.unit_lines.specs.Machine.{last_of, but_last, go_on}
use Rattle.decimals.proofs.Cases.{true_or_false}

length_last : (t : List ℕ) (c : ℕ) → length (t ++ (c ∷ [])) - 1 ≡ length t
length_last t c = rw (length-append t (c ∷ [])) (omega arith)

pub last_added : (t : List ℕ) (c : ℕ) → last_of (t ++ (c ∷ [])) ≡ c
last_added t c = rw (length_last t c) (get_or-append_seam t c [] 0)

pub but_added : (t : List ℕ) (c : ℕ) → but_last (t ++ (c ∷ [])) ≡ t
but_added t c = rw (length_last t c) (take-append_seam t (c ∷ []))

pub go_end : (t : List ℕ) (c : ℕ) (s : List ℕ) → crlf (last_of t) c ≡ true → go_on t (c ∷ s) ≡ ending (but_last t) (go_on [] s)
unfolding go_on
go_end t c s e = rw e

pub go_more : (t : List ℕ) (c : ℕ) (s : List ℕ) → crlf (last_of t) c ≡ false → go_on t (c ∷ s) ≡ go_on (t ++ (c ∷ [])) s
unfolding go_on
go_more t c s e = rw e

-- an input cut in two: what is left of the first piece goes on in the second
abbrev pub joined : Split → Split → Split
joined p q = record { ended = p.ended ++ q.ended; rest = q.rest }

pub go_append : (t a b : List ℕ) → go_on t (a ++ b) ≡ joined (go_on t a) (go_on (go_on t a).rest b)
unfolding go_on
go_append t [] b = refl
go_append t (c ∷ a) b =
    ⊎_elim
    (λ (e : crlf (last_of t) c ≡ true). rw (e, go_append [] a b))
    (λ (e : crlf (last_of t) c ≡ false). rw (e, go_append (t ++ (c ∷ [])) a b))
    (true_or_false (crlf (last_of t) c))

onto_nothing : (p : Split) → onto [] p.ended p.rest ≡ p
onto_nothing p = nothing p.ended p.rest
  where
    nothing : (e : List (List ℕ)) (r : List ℕ) → onto [] e r ≡ record { ended = e; rest = r }
    nothing [] r = refl
    nothing (x ∷ e) r = refl

onto_onto : (t u : List ℕ) (e : List (List ℕ)) (r : List ℕ) → onto t (onto u e r).ended (onto u e r).rest ≡ onto (t ++ u) e r
onto_onto t u [] r = ap (λ (x : List ℕ). record { ended = []; rest = x }) (sym (append_assoc t u r))
onto_onto t u (x ∷ e) r = ap (λ (y : List ℕ). record { ended = y ∷ e; rest = r }) (sym (append_assoc t u x))

-- by one induction: a text whose last character is known, and no text yet
record Same (s : List ℕ) : Type 0 where
  begun : (t : List ℕ) (c : ℕ) → go_on (t ++ (c ∷ [])) s ≡ onto t (split (c ∷ s)).ended (split (c ∷ s)).rest
  fresh : go_on [] s ≡ split s

same : (s : List ℕ) → Same s
unfolding go_on split
same [] = record { begun = λ t c. refl; fresh = refl }
same (d ∷ s) =
    let h = same s in
    record {
      begun = λ t c. ⊎_elim
          (λ (e : crlf c d ≡ true). rw (last_added t c, e, but_added t c, h.fresh, append-nil t))
          (λ (e : crlf c d ≡ false). rw (last_added t c, e, h.begun (t ++ (c ∷ [])) d) (sym (onto_onto t (c ∷ []) (split (d ∷ s)).ended (split (d ∷ s)).rest)))
          (true_or_false (crlf c d));
      fresh = h.begun [] d ∙ onto_nothing (split (d ∷ s));
    }

-- fed from the start, the machine splits as document 01 does
pub go_split : (s : List ℕ) → go_on [] s ≡ split s
go_split s = (same s).fresh
