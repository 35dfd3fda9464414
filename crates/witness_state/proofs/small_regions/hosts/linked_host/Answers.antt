use Rattle.std.proofs.Common.{◌∙◌}
use Rattle.witness_state.proofs.small.Hosted.{linked_here}
use Rattle.witness_state.proofs.small_regions.hosts.linked_host.Goals as goal

pub returns : goal.returns
returns c = c.host_by.ensures ∙ linked_here c.args.parts.now c.args.region.now c.args.id c.args.assoc.now c.link_place.result c.hosting_end-end.result c.link_place.ensures c.hosting_end-end.ensures
