-- A table seen row after row fits, and so does a narrower view, which shows the same numbers. Assumes nothing.
use Prim.Native.Nat.{ℕ, ◌+◌, ◌-◌, ◌*◌, ◌≤◌}
use mathlib.Core.Path.{◌≡◌, ap}
use mathlib.Core.List.{List}
use native.Mathlib.Nat.{add-mul, mul_assoc, mul-le-mul_right, div-le_self, div-mul-le_self}
use native.Mathlib.Omega.{arith}
use lib.ListN.{length}
use Rattle.numbers.specs.Words.{word}
use Rattle.guideline.specs.declared.view.View.{View}
use Rattle.guideline.specs.Bytes.{place, cell, rows_in}
use Rattle.cells.specs.Views.{Fits, by_width, narrowed}

pub fits_less : {w n : ℕ} {v : View} (m : ℕ) → m ≤ w → Fits w v n → Fits m v n
fits_less m less f = record { inside = λ i k row in_row. f.inside i k row (omega arith); end = f.end; few = f.few }

pub rows_fit : (w : ℕ) (l : List ℕ) → Fits w (by_width w l) (length l)
rows_fit w l =
    record {
      inside = λ i k row in_row.
          let a : (i + 1) * (w * 4) ≤ r * (w * 4) = mul-le-mul_right (w * 4) (omega arith) in
          let b : (i + 1) * (w * 4) ≡ i * (w * 4) + 1 * (w * 4) = add-mul i 1 (w * 4) in
          let d : i * w * 4 ≡ i * (w * 4) = mul_assoc i w 4 in
          omega (arith, most);
      end = let d : r * w * 4 ≡ r * (w * 4) = mul_assoc r w 4 in omega (arith, most);
      few = div-le_self (length l) (w * 4);
    }
  where
    r : ℕ
    r = rows_in w l

    most : r * (w * 4) ≤ length l
    most = div-mul-le_self (length l) (w * 4)

pub narrowed_place : (v : View) (a b i k : ℕ) → place (narrowed v a b) i k ≡ place v (a + i) k
narrowed_place v a b i k =
    let h : (a + i) * v.step ≡ a * v.step + i * v.step = add-mul a i v.step in
    omega arith

pub narrowed_read : (l : List ℕ) (v : View) (a b i k : ℕ) → cell l (narrowed v a b) i k ≡ cell l v (a + i) k
narrowed_read l v a b i k = ap (λ (p : ℕ). word l (p * 4)) (narrowed_place v a b i k)

pub narrowed_first : {w n : ℕ} {v : View} (a : ℕ) → a ≤ v.rows → Fits w v n → v.first + a * v.step ≤ n
narrowed_first {w} {n} {v} a most f =
    let g : a * v.step ≤ v.rows * v.step = mul-le-mul_right v.step most in
    let e : v.first + v.rows * v.step ≤ n = f.end in
    omega arith

pub narrowed_fits : {w n : ℕ} {v : View} (a b : ℕ) → a ≤ b → b ≤ v.rows → Fits w v n → Fits w (narrowed v a b) n
narrowed_fits {w} {n} {v} a b order most f =
    record {
      inside = λ i k row in_row.
          let h : place (narrowed v a b) i k ≡ place v (a + i) k = narrowed_place v a b i k in
          let g : place v (a + i) k * 4 + 4 ≤ n = f.inside (a + i) k (omega arith) in_row in
          omega arith;
      end =
          let h : (a + (b - a)) * v.step ≡ a * v.step + (b - a) * v.step = add-mul a (b - a) v.step in
          let g : (a + (b - a)) * v.step ≤ v.rows * v.step = mul-le-mul_right v.step (omega arith) in
          let e : v.first + v.rows * v.step ≤ n = f.end in
          omega arith;
      few = let e : v.rows ≤ n = f.few in omega arith;
    }
