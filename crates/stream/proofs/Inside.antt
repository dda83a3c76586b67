-- The tables and the entries of a case stand one behind the other, inside a case that is whole. Assumes nothing.
use Prim.Native.Nat.{ℕ, zero, suc, ◌+◌, ◌*◌, ◌-◌, ◌≤◌, ◌<◌}
use mathlib.Core.Bool.{Bool, true, false, cond}
use mathlib.Core.Path.{◌≡◌, refl}
use mathlib.Core.List.{List}
use native.Mathlib.Omega.{arith}
use native.Mathlib.Nat.{mul-le-mul_right, suc-mul}
use borrow.Author.Tests.{leb-true, leb-false}
use lib.Dec.{leb}
use lib.ListN.{length}
use Rattle.stream.specs.Entries.{number, entry_length}
use Rattle.stream.specs.Cases.{table_count, front_length, longest_case, sum_of, start, tables_end, entry_count, entry_size, entry_start, lendable, case_length, Whole, read_on, what_next}
use Rattle.stream.specs.declared.cases.Form.{Form}
use Rattle.stream.specs.declared.cases.Form.TheVariants.{Single, Range}
use Rattle.stream.specs.declared.cases.Next.TheVariants.{Read, Answer, Broken}

pub start_next : (b : List ℕ) (k : ℕ) → start b (suc k) ≡ start b k + number b 0 k
unfolding start
start_next b k = omega arith

sum_rises : (f : ℕ → ℕ) (k d : ℕ) → sum_of k f ≤ sum_of (d + k) f
sum_rises f k zero = let e : 0 + k ≡ k = omega arith in rw e (omega arith)
sum_rises f k (suc d) =
    let e : suc d + k ≡ suc (d + k) = omega arith in
    rw e (omega (arith, sum_rises f k d))

start_rises : (b : List ℕ) (j k : ℕ) → j ≤ k → start b j ≤ start b k
unfolding start
start_rises b j k h =
    let e : (k - j) + j ≡ k = omega arith in
    let s : sum_of j (number b 0) ≤ sum_of k (number b 0) = rw e at (sum_rises (number b 0) j (k - j)) in
    omega arith

pub front_inside : (b : List ℕ) → tables_end b ≤ length b → front_length ≤ length b
unfolding start
front_inside b h = omega arith

pub table_inside : (b : List ℕ) (k : ℕ) → k < table_count → tables_end b ≤ length b → start b k + number b 0 k ≤ length b
table_inside b k h w = omega (arith, start_next b k, start_rises b (suc k) table_count h)

pub tables_inside : (f : Form) (b : List ℕ) → case_length f b ≤ length b → tables_end b ≤ length b
unfolding case_length entry_start
tables_inside f b h = omega arith

-- the entries stand one behind the other, and behind the last the case ends
pub entry_inside : (f : Form) (b : List ℕ) (i : ℕ) → i < entry_count b → case_length f b ≤ length b → entry_start f b i + entry_size f ≤ length b
unfolding case_length entry_start
entry_inside f b i h w =
    let m : suc i * entry_size f ≤ entry_count b * entry_size f = mul-le-mul_right (entry_size f) h in
    omega (arith, suc-mul i (entry_size f))

-- as many entries as a number of 32 bits counts
pub size_most : (f : Form) (n : ℕ) → n < 4_294_967_296 → n * entry_size f < 4_294_967_296 * 128
size_most Single n h = omega arith
size_most Range n h = omega arith

pub size_least : (f : Form) → entry_length ≤ entry_size f
size_least Single = omega arith
size_least Range = omega arith

-- a case is answered where it is whole
not_answer : (ended : Bool) (have until : ℕ) → read_on ended have until ≡ Answer → ⊥
not_answer true zero until h = let z : ◌≡◌ {A = ℕ} 0 1 = cc in omega arith
not_answer true (suc n) until h = let z : ◌≡◌ {A = ℕ} 0 1 = cc in omega arith
not_answer false have until h = let z : ◌≡◌ {A = ℕ} 0 1 = cc in omega arith

pub answer_whole : (f : Form) (b : List ℕ) (ended : Bool) → what_next f b ended ≡ Answer → Whole f b
unfolding what_next
answer_whole f b ended = go (leb front_length (length b)) (leb (case_length f b) longest_case) (leb (case_length f b) (length b)) (lendable f b) (leb-true (case_length f b) (length b)) (λ e. e)
  where
    go : (front most whole lists : Bool) → (whole ≡ true → case_length f b ≤ length b) → (lists ≡ true → lendable f b ≡ true) → cond front (cond most (cond whole (cond lists Answer Broken) (read_on ended (length b) (case_length f b))) Broken) (read_on ended (length b) front_length) ≡ Answer → Whole f b
    go true true true true k l h = record { inside = k refl; lists = l refl }
    go true true true false k l h = absurd (let z : ◌≡◌ {A = ℕ} 0 1 = cc in let y : ⊥ = omega arith in y)
    go true true false lists k l h = absurd (not_answer ended (length b) (case_length f b) h)
    go true false whole lists k l h = absurd (let z : ◌≡◌ {A = ℕ} 0 1 = cc in let y : ⊥ = omega arith in y)
    go false most whole lists k l h = absurd (not_answer ended (length b) front_length h)

-- more is read only while the stream goes on, and never behind the longest case
read_goes_on : (ended : Bool) (have until n : ℕ) → read_on ended have until ≡ Read n → (ended ≡ false) × (n ≡ until)
read_goes_on true zero until n h = absurd (let z : ◌≡◌ {A = ℕ} 0 1 = cc in let y : ⊥ = omega arith in y)
read_goes_on true (suc k) until n h = absurd (let z : ◌≡◌ {A = ℕ} 0 1 = cc in let y : ⊥ = omega arith in y)
read_goes_on false have until n h = (refl, cc)

pub read_inside : (f : Form) (b : List ℕ) (ended : Bool) (n : ℕ) → what_next f b ended ≡ Read n → (ended ≡ false) × (length b < n) × (n ≤ longest_case)
unfolding what_next
read_inside f b ended n = go (leb front_length (length b)) (leb (case_length f b) longest_case) (leb (case_length f b) (length b)) (lendable f b) (leb-false front_length (length b)) (leb-true (case_length f b) longest_case) (leb-false (case_length f b) (length b))
  where
    go : (front most whole lists : Bool) → (front ≡ false → length b < front_length) → (most ≡ true → case_length f b ≤ longest_case) → (whole ≡ false → length b < case_length f b) → cond front (cond most (cond whole (cond lists Answer Broken) (read_on ended (length b) (case_length f b))) Broken) (read_on ended (length b) front_length) ≡ Read n → (ended ≡ false) × (length b < n) × (n ≤ longest_case)
    go true true true true g k w h = absurd (let z : ◌≡◌ {A = ℕ} 0 1 = cc in let y : ⊥ = omega arith in y)
    go true true true false g k w h = absurd (let z : ◌≡◌ {A = ℕ} 0 1 = cc in let y : ⊥ = omega arith in y)
    go true true false lists g k w h =
        let r = read_goes_on ended (length b) (case_length f b) n h in
        (r.0, omega (arith, r.1, w refl), omega (arith, r.1, k refl))
    go true false whole lists g k w h = absurd (let z : ◌≡◌ {A = ℕ} 0 1 = cc in let y : ⊥ = omega arith in y)
    go false most whole lists g k w h =
        let r = read_goes_on ended (length b) front_length n h in
        (r.0, omega (arith, r.1, g refl), omega (arith, r.1))
