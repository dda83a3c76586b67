-- Either way it is the stretch. Assumes nothing.
use mathlib.Core.Path.{◌≡◌, sym, ◌∙◌}
use mathlib.Core.Bool.{true}
use Rattle.keys.proofs.RisingKeys.{rises_rising}
use Rattle.keys.proofs.find.find.Goals as goal

pub halved-requires : goal.halved-requires
halved-requires c =
    let rises : c.args.rising ≡ true = cc in
    (c.requires.0, rises_rising _ _ (sym c.requires.1 ∙ rises))
