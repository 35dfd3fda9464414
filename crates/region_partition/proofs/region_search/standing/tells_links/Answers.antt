use Rattle.std.proofs.Common.{sym, ap, ◌∙◌, is_eq}
use Rattle.regions.specs.Regions.{TellsLinks}
use Rattle.region_states.specs.region_basis.BasisOf.{basis_of}
use Rattle.region_partition.specs.region_search.Standing.{all_cmp, host_cmp}
use Rattle.region_partition.proofs.region_search.Linked.{Decides-host}
use Rattle.region_partition.proofs.region_search.Passing.{Decides-all_cmp}
use Rattle.region_partition.proofs.region_search.standing.tells_links.Goals as goal

pub returns : goal.returns
returns c =
    let basis = basis_of c.args.parts.now in
    let region = c.args.region.now in
    let links = c.args.links.now in
    let told = Decides-all_cmp (host_cmp basis links region.linked) (TellsLinks basis region links) (Decides-host basis region links) (basis.hosts region.set) in
    let same = c.is_eq.ensures ∙ ap is_eq c.compare_flags.ensures
    ∙ ap (λ linked. is_eq (all_cmp (host_cmp basis links linked) (basis.hosts region.set))) c.as_slice.ensures.items in
    (λ is. told.0 (sym same ∙ is), λ all. same ∙ told.1 all)
