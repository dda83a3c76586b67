-- Table by table, in their order. Assumes nothing.
use borrow.Author.Rules.{rules}
use Rattle.guideline.specs.Bytes.{spelled}
use Rattle.guideline.specs.Ask.{◌>>=◌, ◌>>◌}
use Rattle.guideline.specs.Forms.{when, refuse, demand}
use Rattle.guideline.specs.Steps.{each_table, whole}
use Rattle.ranges.specs.Soundly.{passed}
use Rattle.ranges.proofs.sound.all_whole.Goals as goal

pub returns-in_err-whole : goal.returns-in_err-whole
unfolding whole each_table demand when refuse ◌>>◌ ◌>>=◌ spelled passed
returns-in_err-whole c = search rules

pub returns-in_err-whole-2 : goal.returns-in_err-whole-2
unfolding whole each_table demand when refuse ◌>>◌ ◌>>=◌ spelled passed
returns-in_err-whole-2 c = search rules

pub returns-in_err-whole-3 : goal.returns-in_err-whole-3
unfolding whole each_table demand when refuse ◌>>◌ ◌>>=◌ spelled passed
returns-in_err-whole-3 c = search rules

pub returns-in_err-whole-4 : goal.returns-in_err-whole-4
unfolding whole each_table demand when refuse ◌>>◌ ◌>>=◌ spelled passed
returns-in_err-whole-4 c = search rules

pub returns-in_err-whole-5 : goal.returns-in_err-whole-5
unfolding whole each_table demand when refuse ◌>>◌ ◌>>=◌ spelled passed
returns-in_err-whole-5 c = search rules

pub returns-in_err-whole-6 : goal.returns-in_err-whole-6
unfolding whole each_table demand when refuse ◌>>◌ ◌>>=◌ spelled passed
returns-in_err-whole-6 c = search rules

pub returns : goal.returns
unfolding whole each_table demand when refuse ◌>>◌ ◌>>=◌ spelled passed
returns c = search rules
