use borrow.Author.Rules.{rules}
use Rattle.decimals.proofs.Decimal.{places_log}
use Rattle.decimals.proofs.places.Goals as goal

pub returns : goal.returns
returns c = places_log _ _ _ _ c.checked_ilog10.ensures.none c.checked_ilog10.ensures.power_le c.checked_ilog10.ensures.next_power_gt c.map_or.ensures (λ k e. search rules)
