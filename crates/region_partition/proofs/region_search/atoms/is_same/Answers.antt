use Rattle.std.proofs.Common.{sym, ◌∙◌}
use Rattle.entity_state.proofs.breach_order.SameValues.{tied_values}
use Rattle.region_partition.proofs.region_search.atoms.is_same.Goals as goal

pub returns : goal.returns
returns c = let tied = tied_values c.args.one.now c.args.other.now in (λ is. tied.0 (sym c.eq.ensures ∙ is), λ same. c.eq.ensures ∙ tied.1 same)
