-- What holds of file 070: the list of every file; what writable means; one result only. Assumes nothing.
use Prim.Native.Nat.{ℕ, ◌^◌, ◌≤◌, ◌<◌}
use mathlib.Core.Bool.{true}
use mathlib.Core.List.{List}
use mathlib.Core.Path.{◌≡◌}
use Rattle.records.specs.Layout.{said}
use Rattle.records.specs.Numbers.{says}
use Rattle.records.specs.declared.ReadRefusal.{ReadRefusal}
use Rattle.std.specs.Prelude.{Result}
use Rattle.records.specs.File.{reading, writable}
use Rattle.records.proofs.Bounds.{writable_within, within_writable}
use Rattle.records.proofs.WritesBack.{read_writable}
use Rattle.records.proofs.EveryFile.{Holds, every_file}
use Rattle.records.proofs.OneResult.{read_once}
use Rattle.records_070.specs.File070.{file_070}
use Rattle.records_070.specs.declared.Record070.{Record070}

-- round trip both ways, the two sets, what a write leaves, and the refusals' numbers
pub holds_070 : Holds file_070 64
unfolding file_070
holds_070 = every_file file_070

pub record Bounds070 (r : Record070) : Type 0 where
  pub mutation : r.mutation ≤ 3
  pub hpkode : r.hpkode < 10 ^ 8
  pub prkode : r.prkode < 10 ^ 8
  pub hpanpr : r.hpanpr < 10 ^ 6
  pub gpkode : r.gpkode < 10 ^ 8
  pub prangp : r.prangp < 10 ^ 6
  pub hpangp : r.hpangp < 10 ^ 6

pub writable_bounds_070 : (r : Record070) → writable file_070 r ≡ true → Bounds070 r
unfolding file_070
writable_bounds_070 r w =
    let (mutation, (hpkode, (prkode, (hpanpr, (gpkode, (prangp, (hpangp, _))))))) = writable_within file_070 r w in
    record { mutation = mutation; hpkode = hpkode; prkode = prkode; hpanpr = hpanpr; gpkode = gpkode; prangp = prangp; hpangp = hpangp }

pub bounds_writable_070 : (r : Record070) → Bounds070 r → writable file_070 r ≡ true
unfolding file_070
bounds_writable_070 r b = within_writable file_070 r (b.mutation, (b.hpkode, (b.prkode, (b.hpanpr, (b.gpkode, (b.prangp, (b.hpangp, tt)))))))

pub read_bounds_070 : (s : List ℕ) (r : Record070) → reading file_070 s ≡ said r → Bounds070 r
read_bounds_070 s r e = writable_bounds_070 r (read_writable file_070 s r e)

pub read_once_070 : (a b : Result Record070 ReadRefusal) → says a ≡ says b → a ≡ b
read_once_070 = read_once
