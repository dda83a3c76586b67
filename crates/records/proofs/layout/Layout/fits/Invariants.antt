-- The parts that are left decide.
use Rattle.std.proofs.Common.{◌≡◌, drop, IsTrue}
use Rattle.records.specs.Layout.{fits}
use Rattle.records.specs.Parts.{parts_of, narrow, from_numbers}
use Rattle.records.proofs.layout.Layout.fits.Given as goal

abbrev pub invariant-loop-i : goal.invariant-loop-i
invariant-loop-i g l =
    IsTrue (narrow (parts_of (drop l.i l.self.parts.now)))
    × (fits (parts_of l.self.parts.now) (from_numbers (parts_of l.self.parts.now) 0 l.numbers) ≡ fits (parts_of (drop l.i l.self.parts.now)) (from_numbers (parts_of (drop l.i l.self.parts.now)) l.i l.numbers))
