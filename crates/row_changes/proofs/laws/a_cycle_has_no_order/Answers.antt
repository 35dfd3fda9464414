use Rattle.row_changes.proofs.ordering.Ordered.{exactly, no_ring}
use Rattle.row_changes.proofs.laws.a_cycle_has_no_order.Goals as goal

pub returns : goal.returns
returns c = λ store old new both ring cycle are changes difference legal.
    no_ring store old new both changes difference ((exactly store old new both changes difference).0 legal) ring cycle are
