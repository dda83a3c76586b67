-- What is left of the field, after the number so far, decides.
use Rattle.std.proofs.Common.{◌≡◌, ◌<◌, ◌≤◌, ◌^◌, drop}
use Rattle.records.specs.Numbers.{field_of}
use Rattle.records.proofs.Numbers.{field_from}
use Rattle.records.proofs.parts.number_at.Given as goal

abbrev pub invariant-loop-d : goal.invariant-loop-d
invariant-loop-d l = (l.d-index ≤ 12) × (field_of l.d-items ≡ field_from l.n (drop l.d-index l.d-items)) × (l.n < 10 ^ l.d-index)
