use Rattle.std.specs.List.{flat_map}
use Rattle.msl_rules.specs.OwnerRules.{writers_at_link, writers_at_site, writers_in}
use Rattle.msl_rules.specs.Sites.{link_sites, sites}
use Rattle.msl_fragments.proofs.msl_owners.Adding.{adds_both, holds_added}
use Rattle.msl_fragments.proofs.msl_owners.owners.all_writers.Goals as goal

pub returns : goal.returns
returns c =
    let model = c.args.names.now.model.now in
    let store = c.args.names.now.store.now in
    let raw = c.args.raw.now in
    holds_added c.none-all.result c.add_sets.new.all (writers_in model store raw) c.none-all.ensures
    (adds_both c.none-all.result c.add_links.new.all c.add_sets.new.all (flat_map (writers_at_link model store) (link_sites raw)) (flat_map (writers_at_site model store) (sites raw))
    c.in_ok-add_links.ensures c.in_ok-add_sets.ensures)
