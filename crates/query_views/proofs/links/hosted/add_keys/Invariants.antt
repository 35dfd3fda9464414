use Rattle.std.proofs.Common.{◌≡◌, ◌==◌, ◌++◌, filter, map, take}
use Rattle.query_views.specs.LinkKeys.{host_keys, shown_keys}
use Rattle.query_views.proofs.links.hosted.add_keys.Given as goal

-- those of the links so far have come
abbrev pub invariant-loop-link : goal.invariant-loop-link
invariant-loop-link l = shown_keys l.keyed.items
    ≡ shown_keys l.initial.keyed.items ++ map (host_keys l.first_hosts l.entity) (filter (λ link. link.assoc.index == l.assoc.index) (take l.link-index l.link-items))
