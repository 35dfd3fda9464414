use Rattle.std.proofs.Common.{◌≡◌, map}
use Rattle.witness_state.specs.SmallRegions.{host_of}
use Rattle.witness_state.proofs.small.Hosted.{linked_before}
use Rattle.witness_state.proofs.small_regions.hosts.linked_hosts.Given as goal

-- the hosted associations among those so far have come
abbrev pub invariant-loop-index : goal.invariant-loop-index
invariant-loop-index l = map host_of l.hosts ≡ linked_before l.parts l.region l.index
