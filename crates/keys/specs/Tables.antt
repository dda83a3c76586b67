-- The tables of each of which something was seen, and the bytes of each.
use Rattle.std.specs.Prelude.{[]}
use Rattle.guideline.specs.declared.rows.TableName.TheVariants.{T640, T641, T642, T643, T649, T730, T070}
use Rattle.guideline.specs.Bytes.{Lents}
use Rattle.keys.specs.declared.tables.RuleTables.{RuleTables}
use Rattle.keys.specs.declared.tables.SeenTables.{SeenTables}

abbrev pub bytes_of : SeenTables → Lents
bytes_of t T640 = t.rules.t640.bytes.now
bytes_of t T641 = t.rules.t641.bytes.now
bytes_of t T642 = t.rules.t642.bytes.now
bytes_of t T643 = t.rules.t643.bytes.now
bytes_of t T649 = t.rules.t649.bytes.now
bytes_of t T730 = t.t730.bytes.now
bytes_of t T070 = t.t070.bytes.now

-- where no others are lent
abbrev pub rule_bytes : RuleTables → Lents
rule_bytes t T640 = t.t640.bytes.now
rule_bytes t T641 = t.t641.bytes.now
rule_bytes t T642 = t.t642.bytes.now
rule_bytes t T643 = t.t643.bytes.now
rule_bytes t T649 = t.t649.bytes.now
rule_bytes t T730 = []
rule_bytes t T070 = []
