use Rattle.std.proofs.Common.{◌≡◌, take}
use Rattle.update_views.specs.Placed.{keys_in_sets}
use Rattle.update_views.proofs.state_tables.keys_in_sets.Given as goal

-- the keys of the sets that were passed
abbrev pub invariant-loop-of_set : goal.invariant-loop-of_set
invariant-loop-of_set l = l.keys.items ≡ keys_in_sets l.model (take l.of_set-index l.entities)
