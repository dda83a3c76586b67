-- The seven tables as they are handed over, and the bytes of each.
use Rattle.guideline.specs.declared.lents.LentTables.{LentTables}
use Rattle.guideline.specs.Types.{T640, T641, T642, T643, T649, T730, T070}
use Rattle.guideline.specs.Bytes.{Lents}

abbrev pub lent : LentTables → Lents
lent t T640 = t.t640.now
lent t T641 = t.t641.now
lent t T642 = t.t642.now
lent t T643 = t.t643.now
lent t T649 = t.t649.now
lent t T730 = t.t730.now
lent t T070 = t.t070.now
