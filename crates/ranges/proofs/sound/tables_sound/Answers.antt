-- First 121, then 122, table by table in their order. Assumes nothing.
use borrow.Author.Rules.{rules}
use mathlib.Core.Path.{sym, ◌∙◌}
use Rattle.guideline.specs.Bytes.{spelled, seen}
use Rattle.guideline.specs.Ask.{◌>>=◌, ◌>>◌}
use Rattle.guideline.specs.Forms.{when, refuse, demand}
use Rattle.guideline.specs.Lent.{lent}
use Rattle.guideline.specs.Steps.{each_table, whole, in_ranges, sound}
use Rattle.cells.specs.Lents.{shown_by}
use Rattle.ranges.specs.Soundly.{passed, soundness}
use Rattle.ranges.proofs.Soundly.{first_passed, first_refused}
use Rattle.ranges.proofs.sound.tables_sound.Goals as goal

pub returns-in_err-all_whole : goal.returns-in_err-all_whole
unfolding soundness sound
returns-in_err-all_whole c =
    let t = spelled (lent c.args.t) in
    rw (first_refused tt _ (whole t) (in_ranges t) (sym c.in_err-all_whole.was ∙ c.all_whole.ensures)) (search rules)

pub returns-in_err-in_range : goal.returns-in_err-in_range
unfolding soundness sound in_ranges each_table demand when refuse ◌>>◌ ◌>>=◌ spelled shown_by seen passed
returns-in_err-in_range c =
    let t = spelled (lent c.args.t) in
    rw (first_passed tt _ (whole t) (in_ranges t) (sym c.in_ok-all_whole.was ∙ c.all_whole.ensures)) (search rules)

pub returns-in_err-in_range-2 : goal.returns-in_err-in_range-2
unfolding soundness sound in_ranges each_table demand when refuse ◌>>◌ ◌>>=◌ spelled shown_by seen passed
returns-in_err-in_range-2 c =
    let t = spelled (lent c.args.t) in
    rw (first_passed tt _ (whole t) (in_ranges t) (sym c.in_ok-all_whole.was ∙ c.all_whole.ensures)) (search rules)

pub returns-in_err-in_range-3 : goal.returns-in_err-in_range-3
unfolding soundness sound in_ranges each_table demand when refuse ◌>>◌ ◌>>=◌ spelled shown_by seen passed
returns-in_err-in_range-3 c =
    let t = spelled (lent c.args.t) in
    rw (first_passed tt _ (whole t) (in_ranges t) (sym c.in_ok-all_whole.was ∙ c.all_whole.ensures)) (search rules)

pub returns-in_err-in_range-4 : goal.returns-in_err-in_range-4
unfolding soundness sound in_ranges each_table demand when refuse ◌>>◌ ◌>>=◌ spelled shown_by seen passed
returns-in_err-in_range-4 c =
    let t = spelled (lent c.args.t) in
    rw (first_passed tt _ (whole t) (in_ranges t) (sym c.in_ok-all_whole.was ∙ c.all_whole.ensures)) (search rules)

pub returns-in_err-in_range-5 : goal.returns-in_err-in_range-5
unfolding soundness sound in_ranges each_table demand when refuse ◌>>◌ ◌>>=◌ spelled shown_by seen passed
returns-in_err-in_range-5 c =
    let t = spelled (lent c.args.t) in
    rw (first_passed tt _ (whole t) (in_ranges t) (sym c.in_ok-all_whole.was ∙ c.all_whole.ensures)) (search rules)

pub returns-in_err-in_range-6 : goal.returns-in_err-in_range-6
unfolding soundness sound in_ranges each_table demand when refuse ◌>>◌ ◌>>=◌ spelled shown_by seen passed
returns-in_err-in_range-6 c =
    let t = spelled (lent c.args.t) in
    rw (first_passed tt _ (whole t) (in_ranges t) (sym c.in_ok-all_whole.was ∙ c.all_whole.ensures)) (search rules)

pub returns-in_err-in_range-7 : goal.returns-in_err-in_range-7
unfolding soundness sound in_ranges each_table demand when refuse ◌>>◌ ◌>>=◌ spelled shown_by seen passed
returns-in_err-in_range-7 c =
    let t = spelled (lent c.args.t) in
    rw (first_passed tt _ (whole t) (in_ranges t) (sym c.in_ok-all_whole.was ∙ c.all_whole.ensures)) (search rules)

pub returns : goal.returns
unfolding soundness sound in_ranges each_table demand when refuse ◌>>◌ ◌>>=◌ spelled shown_by seen passed
returns c =
    let t = spelled (lent c.args.t) in
    rw (first_passed tt _ (whole t) (in_ranges t) (sym c.in_ok-all_whole.was ∙ c.all_whole.ensures)) (search rules)
