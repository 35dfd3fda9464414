use Rattle.std.proofs.Common.{◌≡◌, ◌<◌, ◌++◌, List, [], length, Some, sym, ap, subst, ◌∙◌}
use Rattle.std.proofs.Math.ListN.{set}
use Rattle.std.proofs.lemmas.Option.{slice_get-get_or}
use Rattle.emc_base.specs.Lists.{At}
use Rattle.round_trip.specs.Words.{SetId, Value}
use Rattle.table_owners.specs.declared.places.LinkPlace.{LinkPlace}
use Rattle.table_owners.specs.declared.places.LinkPlace.TheVariants as place
use Rattle.cells.specs.HostedLinks.{host_set, hosted_at}
use Rattle.cells.specs.host_links.Grouped.{links_of}
use Rattle.cells.proofs.host_links.Placed.{Kept, host_within, set_grown}
use Rattle.cells.proofs.host_links.adding.add_hosted.Goals as goal

pub returns-clause-added : goal.returns-clause-added
returns-clause-added c =
    let first_hosts = c.in-Hosted.first_hosts in
    let maps : List Kept = c.args.by_set.now.items in
    let assoc = c.args.assoc.now in
    let links = c.args.links.now in
    let was : Kept = c.index_mut-by_key.result.now in
    let now : Kept = c.add_links.new.by_key in
    let is_host : c.host_set-host.result ≡ host_set first_hosts assoc = c.host_set-host.ensures in
    let within = host_within first_hosts assoc (length maps) c.requires.first c.requires.second in
    let there : c.host_set-host.result.index < length maps = subst (λ (s : SetId). s.index < length maps) (sym is_host) within in
    let at : At maps c.host_set-host.result.index was = slice_get-get_or maps c.host_set-host.result.index was there ∙ ap Some (sym c.index_mut-by_key.ensures.value) in
    let Grown : SetId → LinkPlace → Type 0 = λ host place. (s : SetId) (key : List Value)
    → links_of (set maps host.index now) [] s key ≡ links_of maps [] s key ++ hosted_at place c.args.id assoc s key links in
    subst (λ (p : LinkPlace). Grown c.host_set-host.result p) (sym c.in-Hosted.is)
    (subst (λ (host : SetId). Grown host (place.Hosted first_hosts c.in-Hosted.fragment)) (sym is_host)
    (set_grown maps was now first_hosts c.in-Hosted.fragment c.args.id assoc links within (subst (λ (s : SetId). At maps s.index was) is_host at) c.in_ok-add_links.ensures))
