-- The numbers so far, and those of the parts that are left.
use Rattle.std.proofs.Common.{◌≡◌, ◌+◌, ◌≤◌, ◌++◌, length, take, drop, IsTrue}
use Rattle.records.specs.Layout.{total, every, digit_part, values}
use Rattle.records.specs.Parts.{parts_of, narrow, to_numbers}
use Rattle.records.proofs.layout.Layout.numbers.Given as goal

abbrev pub invariant-loop-i : goal.invariant-loop-i
invariant-loop-i g l =
    (l.at + total (parts_of (drop l.i l.self.parts.now)) ≤ length l.s)
    × IsTrue (narrow (parts_of (drop l.i l.self.parts.now)))
    × (length l.numbers ≡ g.row.N)
    × (every digit_part (parts_of l.self.parts.now) 0 l.s ≡ every digit_part (parts_of (drop l.i l.self.parts.now)) l.at l.s)
    × (take l.i l.numbers ++ to_numbers (parts_of (drop l.i l.self.parts.now)) (values (parts_of (drop l.i l.self.parts.now)) l.at l.s) ≡ to_numbers (parts_of l.self.parts.now) (values (parts_of l.self.parts.now) 0 l.s))
