-- What is kept of a text is enough: it lists as the text itself does, whatever follows. Assumes nothing.
use Prim.Native.Nat.{ℕ, ◌+◌, ◌-◌, ◌<◌, ◌≤◌}
use mathlib.Core.Bool.{true, false}
use mathlib.Core.List.{List, [], ◌∷◌, ◌++◌, append-nil}
use mathlib.Core.Path.{◌≡◌, refl, sym, ap, ◌∙◌}
use mathlib.Core.Logic.{⊎_elim}
use native.Mathlib.Omega.{arith}
use native.Mathlib.Nat.{not-suc-le-zero}
use borrow.Author.Tests.{le-leb, lt-leb, ne_eqb}
use lib.ListN.{length, take, drop, length-append}
use lib.Seq.{get_or-append-add, take-append-le, length-take-le, take-append_seam, sets-eq}
use Rattle.records.specs.Layout.{refused, scan}
use Rattle.records.specs.File.{reading}
use Rattle.records_730.specs.File730.{file_730}
use Rattle.unit_line.specs.Line.{line}
use Rattle.unit_lines.specs.Records.{crlf, line_of, lines_of, unless_empty}
use Rattle.unit_lines.specs.Machine.{last_of, but_last, go_on, kept_most, shrunk, no_bytes, keep, text_of}
use Rattle.decimals.proofs.Cases.{true_or_false, lt_or_ge}
use Rattle.unit_lines.proofs.GoOn.{last_added, but_added, go_end, go_more}

pub shrunk_short : (t : List ℕ) → length t ≤ kept_most → shrunk t ≡ t
unfolding shrunk
shrunk_short t h = rw (le-leb (length t) kept_most h)

pub shrunk_long : (t : List ℕ) → kept_most < length t → shrunk t ≡ take 65 t ++ (last_of t ∷ [])
unfolding shrunk
shrunk_long t h = rw (lt-leb (length t) kept_most h)

pub length_shrunk : (t : List ℕ) → length (shrunk t) ≤ kept_most
length_shrunk t =
    ⊎_elim
    (λ (h : kept_most < length t). rw (shrunk_long t h, length-append (take 65 t) (last_of t ∷ []), length-take-le 65 t (omega arith)) (omega arith))
    (λ (h : length t ≤ kept_most). rw (shrunk_short t h) h)
    (lt_or_ge kept_most (length t))

pub kept_text : (t : List ℕ) → text_of (keep t) ≡ shrunk t
unfolding keep
kept_text t =
    let h : 0 + length (shrunk t) ≤ length no_bytes = omega (arith, length_shrunk t) in
    rw (sets-eq (shrunk t) no_bytes 0 h) (take-append_seam (shrunk t) (drop (0 + length (shrunk t)) no_bytes))

-- a record of any other length is refused, whatever it holds
pub line_length : (t : List ℕ) → (length t ≡ 64 → ⊥) → line_of t ≡ line (refused 201)
unfolding line_of file_730 reading scan
line_length t h = rw (ne_eqb (length t) 64 h)

pub last_append : (t : List ℕ) (c : ℕ) (u : List ℕ) → last_of (t ++ (c ∷ u)) ≡ last_of (c ∷ u)
last_append t c u =
    let e : length (t ++ (c ∷ u)) - 1 ≡ length t + (length (c ∷ u) - 1) = rw (length-append t (c ∷ u)) (omega arith) in
    rw e (get_or-append-add t (c ∷ u) (length (c ∷ u) - 1) 0)

last_shrunk : (t : List ℕ) → last_of (shrunk t) ≡ last_of t
last_shrunk t =
    ⊎_elim
    (λ (h : kept_most < length t). rw (shrunk_long t h) (last_added (take 65 t) (last_of t)))
    (λ (h : length t ≤ kept_most). rw (shrunk_short t h))
    (lt_or_ge kept_most (length t))

pub line_shrunk : (t : List ℕ) → line_of (but_last (shrunk t)) ≡ line_of (but_last t)
line_shrunk t =
    ⊎_elim
    (λ (h : kept_most < length t).
    rw (shrunk_long t h, but_added (take 65 t) (last_of t))
    (line_length (take 65 t) (λ e. omega (arith, length-take-le 65 t (omega arith), e))
    ∙ sym (line_length (but_last t) (λ e. omega (arith, length-take-le (length t - 1) t (omega arith), e)))))
    (λ (h : length t ≤ kept_most). rw (shrunk_short t h))
    (lt_or_ge kept_most (length t))

pub shrunk_more : (t u : List ℕ) → shrunk (shrunk t ++ u) ≡ shrunk (t ++ u)
shrunk_more t [] = rw (append-nil (shrunk t), append-nil t) (shrunk_short (shrunk t) (length_shrunk t))
shrunk_more t (c ∷ u) =
    ⊎_elim
    (λ (h : kept_most < length t).
    let l = length-take-le 65 t (omega arith) in
    let f : length (shrunk t) ≡ 66 = rw (shrunk_long t h, length-append (take 65 t) (last_of t ∷ []), l) in
    let a : kept_most < length (shrunk t ++ (c ∷ u)) = rw (length-append (shrunk t) (c ∷ u)) (omega arith) in
    let b : kept_most < length (t ++ (c ∷ u)) = rw (length-append t (c ∷ u)) (omega arith) in
    let p : take 65 (shrunk t ++ (c ∷ u)) ≡ take 65 t = take-append-le 65 (shrunk t) (c ∷ u) (omega arith) ∙ rw (shrunk_long t h) (take_at_65 t l) in
    rw (shrunk_long (shrunk t ++ (c ∷ u)) a, shrunk_long (t ++ (c ∷ u)) b, last_append (shrunk t) c u, last_append t c u, p, take-append-le 65 t (c ∷ u) (omega arith)))
    (λ (h : length t ≤ kept_most). rw (shrunk_short t h))
    (lt_or_ge kept_most (length t))
  where
    take_at_65 : (t : List ℕ) → length (take 65 t) ≡ 65 → take 65 (take 65 t ++ (last_of t ∷ [])) ≡ take 65 t
    take_at_65 t l = ap (λ (n : ℕ). take n (take 65 t ++ (last_of t ∷ []))) (sym l) ∙ take-append_seam (take 65 t) (last_of t ∷ [])

-- two texts of which the same is kept
record Alike (t u s : List ℕ) : Type 0 where
  ended : lines_of (go_on t s).ended ≡ lines_of (go_on u s).ended
  rest : shrunk (go_on t s).rest ≡ shrunk (go_on u s).rest

last_alike : (t u : List ℕ) → shrunk t ≡ shrunk u → last_of t ≡ last_of u
last_alike t u e = sym (last_shrunk t) ∙ (ap last_of e ∙ last_shrunk u)

alike : (t u s : List ℕ) → shrunk t ≡ shrunk u → Alike t u s
unfolding go_on lines_of
alike t u [] e = record { ended = refl; rest = e }
alike t u (c ∷ s) e =
    ⊎_elim
    (λ (f : crlf (last_of u) c ≡ true).
    let g : crlf (last_of t) c ≡ true = rw (last_alike t u e) f in
    let l : line_of (but_last t) ≡ line_of (but_last u) = sym (line_shrunk t) ∙ (ap (λ (x : List ℕ). line_of (but_last x)) e ∙ line_shrunk u) in
    record { ended = rw (go_end t c s g, go_end u c s f, l); rest = rw (go_end t c s g, go_end u c s f) })
    (λ (f : crlf (last_of u) c ≡ false).
    let g : crlf (last_of t) c ≡ false = rw (last_alike t u e) f in
    let k : shrunk (t ++ (c ∷ [])) ≡ shrunk (u ++ (c ∷ [])) = sym (shrunk_more t (c ∷ [])) ∙ (ap (λ (x : List ℕ). shrunk (x ++ (c ∷ []))) e ∙ shrunk_more u (c ∷ [])) in
    let i = alike (t ++ (c ∷ [])) (u ++ (c ∷ [])) s k in
    record { ended = rw (go_more t c s g, go_more u c s f) i.ended; rest = rw (go_more t c s g, go_more u c s f) i.rest })
    (true_or_false (crlf (last_of u) c))

pub ended_kept : (t s : List ℕ) → lines_of (go_on (shrunk t) s).ended ≡ lines_of (go_on t s).ended
ended_kept t s = (alike (shrunk t) t s (shrunk_short (shrunk t) (length_shrunk t))).ended

pub rest_kept : (t s : List ℕ) → shrunk (go_on (shrunk t) s).rest ≡ shrunk (go_on t s).rest
rest_kept t s = (alike (shrunk t) t s (shrunk_short (shrunk t) (length_shrunk t))).rest

-- a last record without CR LF
pub one_line : (t : List ℕ) → 0 < length t → lines_of (unless_empty t) ≡ line_of t
unfolding lines_of
one_line [] h = absurd (not-suc-le-zero h)
one_line (c ∷ t) h = append-nil (line_of (c ∷ t))

pub last_kept : (t : List ℕ) → lines_of (unless_empty (shrunk t)) ≡ lines_of (unless_empty t)
last_kept t =
    ⊎_elim
    (λ (h : kept_most < length t).
    let l = length-take-le 65 t (omega arith) in
    let f : length (shrunk t) ≡ 66 = rw (shrunk_long t h, length-append (take 65 t) (last_of t ∷ []), l) in
    one_line (shrunk t) (omega arith)
    ∙ (line_length (shrunk t) (λ e. omega arith) ∙ (sym (line_length t (λ e. omega arith)) ∙ sym (one_line t (omega arith)))))
    (λ (h : length t ≤ kept_most). rw (shrunk_short t h))
    (lt_or_ge kept_most (length t))
