use Rattle.std.proofs.Common.{◌≡◌, take}
use Rattle.query_views.specs.LinkKeys.{hosted_keys, shown_keys}
use Rattle.query_views.proofs.links.hosted.hosted_keys.Given as goal

-- those of the entities so far have come
abbrev pub invariant-loop-entity : goal.invariant-loop-entity
invariant-loop-entity l = shown_keys l.keyed.items ≡ hosted_keys l.assoc l.first_hosts (take l.entity-index l.entities)
