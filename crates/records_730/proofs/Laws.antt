-- What holds of file 730: the list of every file; what writable means; one result only. Assumes nothing.
use Prim.Native.Nat.{ℕ, ◌^◌, ◌≤◌, ◌<◌}
use mathlib.Core.Bool.{true}
use mathlib.Core.List.{List}
use mathlib.Core.Path.{◌≡◌}
use Rattle.records.specs.Layout.{said}
use Rattle.records.specs.Numbers.{says}
use Rattle.records.specs.declared.ReadRefusal.{ReadRefusal}
use Rattle.std.specs.Prelude.{Result}
use Rattle.records.specs.File.{reading, writable}
use Rattle.records.proofs.Bounds.{writable_within, within_writable}
use Rattle.records.proofs.WritesBack.{read_writable}
use Rattle.records.proofs.EveryFile.{Holds, every_file}
use Rattle.records.proofs.OneResult.{read_once}
use Rattle.records_730.specs.File730.{file_730}
use Rattle.records_730.specs.declared.Record730.{Record730}

-- round trip both ways, the two sets, what a write leaves, and the refusals' numbers
pub holds_730 : Holds file_730 64
unfolding file_730
holds_730 = every_file file_730

pub record Bounds730 (r : Record730) : Type 0 where
  pub mutation : r.mutation ≤ 3
  pub srtcde : r.srtcde < 10 ^ 6
  pub code : r.code < 10 ^ 8
  pub cdhoev : r.cdhoev < 10 ^ 12
  pub cdeenh : r.cdeenh < 10 ^ 6

pub writable_bounds_730 : (r : Record730) → writable file_730 r ≡ true → Bounds730 r
unfolding file_730
writable_bounds_730 r w =
    let (mutation, (srtcde, (code, (cdhoev, (cdeenh, _))))) = writable_within file_730 r w in
    record { mutation = mutation; srtcde = srtcde; code = code; cdhoev = cdhoev; cdeenh = cdeenh }

pub bounds_writable_730 : (r : Record730) → Bounds730 r → writable file_730 r ≡ true
unfolding file_730
bounds_writable_730 r b = within_writable file_730 r (b.mutation, (b.srtcde, (b.code, (b.cdhoev, (b.cdeenh, tt)))))

pub read_bounds_730 : (s : List ℕ) (r : Record730) → reading file_730 s ≡ said r → Bounds730 r
read_bounds_730 s r e = writable_bounds_730 r (read_writable file_730 s r e)

pub read_once_730 : (a b : Result Record730 ReadRefusal) → says a ≡ says b → a ≡ b
read_once_730 = read_once
