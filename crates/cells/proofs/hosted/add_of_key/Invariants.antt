use Rattle.std.proofs.Common.{◌≡◌, ◌++◌, take}
use Rattle.cells.specs.HostedLinks.{of_key}
use Rattle.cells.proofs.hosted.add_of_key.Given as goal

-- those of the links so far have come
abbrev pub invariant-loop-link : goal.invariant-loop-link
invariant-loop-link l = l.found ≡ l.initial.found ++ of_key l.first_hosts l.id l.key (take l.link-index l.links)
