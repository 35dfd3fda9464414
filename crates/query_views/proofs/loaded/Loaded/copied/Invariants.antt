use Rattle.std.proofs.Common.{◌≡◌, map, take}
use Rattle.query_views.specs.Lent.{lent_entity}
use Rattle.query_views.proofs.loaded.Loaded.copied.Given as goal

-- the lists of the sets so far are copied
abbrev pub invariant-loop-of_set : goal.invariant-loop-of_set
invariant-loop-of_set l = l.lists.items ≡ map (λ of_set. map lent_entity of_set.items) (take l.of_set-index l.of_set-items)
