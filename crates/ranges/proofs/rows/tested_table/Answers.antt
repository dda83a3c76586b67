-- The table that is named. Assumes nothing.
use Rattle.ranges.proofs.rows.tested_table.Goals as goal

pub returns-in-T640 : goal.returns-in-T640
returns-in-T640 c = rw c.in-T640.is c.tested_all.ensures

pub returns-in-T641 : goal.returns-in-T641
returns-in-T641 c = rw c.in-T641.is c.tested_all-in-T641.ensures

pub returns-in-T642 : goal.returns-in-T642
returns-in-T642 c = rw c.in-T642.is c.tested_all-in-T642.ensures

pub returns-in-T643 : goal.returns-in-T643
returns-in-T643 c = rw c.in-T643.is c.tested_all-in-T643.ensures

pub returns-in-T649 : goal.returns-in-T649
returns-in-T649 c = rw c.in-T649.is c.tested_all-in-T649.ensures

pub returns-in-T730 : goal.returns-in-T730
returns-in-T730 c = rw c.in-T730.is c.tested_all-in-T730.ensures

pub returns-in-T070 : goal.returns-in-T070
returns-in-T070 c = rw c.in-T070.is c.tested_all-in-T070.ensures
