-- The parts that are left decide.
use Rattle.std.proofs.Common.{◌≡◌, ◌+◌, ◌≤◌, length, drop}
use Rattle.records.specs.Layout.{total, every, fixed_part}
use Rattle.records.specs.Parts.{parts_of}
use Rattle.records.proofs.layout.Layout.is_fixed.Given as goal

abbrev pub invariant-loop-part : goal.invariant-loop-part
invariant-loop-part g l =
    (l.at + total (parts_of (drop l.part-index l.self.parts.now)) ≤ length l.s)
    × (every fixed_part (parts_of l.self.parts.now) 0 l.s ≡ every fixed_part (parts_of (drop l.part-index l.self.parts.now)) l.at l.s)
