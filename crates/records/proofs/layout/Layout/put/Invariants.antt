-- The parts that are left, stored behind those that stand, complete the record.
use Rattle.std.proofs.Common.{◌≡◌, ◌+◌, ◌≤◌, length, drop}
use lib.Seq.{sets}
use Rattle.records.specs.Layout.{total, spell}
use Rattle.records.specs.Parts.{parts_of, from_numbers}
use Rattle.records.proofs.layout.Layout.put.Given as goal

abbrev pub invariant-loop-i : goal.invariant-loop-i
invariant-loop-i g l =
    (length l.buf ≡ length l.initial.buf)
    × (l.at + total (parts_of (drop l.i l.self.parts.now)) ≤ length l.buf)
    × (sets l.buf l.at (spell (parts_of (drop l.i l.self.parts.now)) (from_numbers (parts_of (drop l.i l.self.parts.now)) l.i l.numbers)) ≡ sets l.initial.buf l.place (spell (parts_of l.self.parts.now) (from_numbers (parts_of l.self.parts.now) 0 l.numbers)))
