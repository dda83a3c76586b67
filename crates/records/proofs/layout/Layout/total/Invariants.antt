-- What is summed and what is left make the whole.
use Rattle.std.proofs.Common.{◌≡◌, ◌+◌, drop}
use Rattle.records.specs.Layout.{total}
use Rattle.records.specs.Parts.{parts_of}
use Rattle.records.proofs.layout.Layout.total.Given as goal

abbrev pub invariant-loop-part : goal.invariant-loop-part
invariant-loop-part g l = l.width + total (parts_of (drop l.part-index l.self.parts.now)) ≡ total (parts_of l.self.parts.now)
