use Rattle.std.proofs.Common.{◌≡◌, take}
use Rattle.std.specs.List.{enumerate_from, flat_map}
use Rattle.cells.specs.HostedLinks.{hosted_by}
use Rattle.cells.proofs.hosted.hosted_links.Given as goal

-- those of the associations so far have come
abbrev pub invariant-loop-index : goal.invariant-loop-index
invariant-loop-index l = l.found ≡ flat_map (hosted_by l.cells l.state l.set l.key) (take l.index (enumerate_from 0 l.model.assocs))
