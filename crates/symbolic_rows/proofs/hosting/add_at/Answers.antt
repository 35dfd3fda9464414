use Rattle.std.proofs.Common.{◌≡◌, ◌++◌, ◌==◌, ◌&&◌, true, map, sym, ap, subst, ◌∙◌}
use Rattle.std.proofs.lemmas.Option.{none-some}
use Rattle.emc_base.specs.Lists.{At}
use Rattle.round_trip.specs.Words.{End}
use Rattle.table_owners.specs.declared.places.LinkPlace.{LinkPlace}
use Rattle.regions.specs.Symbols.{is_linked}
use Rattle.region_states.specs.region_basis.BasisOf.{basis_of}
use Rattle.symbolic_rows.specs.Written.{in_symbols, writings_at}
use Rattle.symbolic_rows.proofs.Behind.{behind}
use Rattle.symbolic_rows.proofs.Hosted.{fragment_there, host_writes}
use Rattle.symbolic_rows.proofs.hosting.add_at.Goals as goal

pub unreachable-requires : goal.unreachable-requires
unreachable-requires c =
    let parts = c.args.parts.now in
    let told = subst (λ (one : LinkPlace). At parts.cells.now.places c.args.id.index one) c.in-Hosted.is c.requires.told in
    let there = fragment_there parts c.requires.parts c.args.id c.args.assoc.now c.requires.here c.in-Hosted.first_hosts c.in-Hosted.fragment told in
    none-some there.0 (c.in_default-get.ensures.item ∙ there.1)

pub returns : goal.returns
returns c =
    let parts = c.args.parts.now in
    let told = subst (λ (one : LinkPlace). At parts.cells.now.places c.args.id.index one) c.in-Hosted.is c.requires.told in
    let Linked : End → Type 0 = λ end. true ≡ ((end.set.index == c.args.region.now.set.index) && is_linked (basis_of parts) c.args.region.now.linked c.args.id) in
    let linked = subst Linked c.host_end.ensures c.if-not-is_linked_at.ensures in
    let writes = host_writes parts c.requires.parts c.args.id c.args.assoc.now c.requires.here c.in-Hosted.first_hosts c.in-Hosted.fragment told
    c.in-Some.fragment.now (sym c.in-Some.ensures.item) c.args.region.now linked in
    behind in_symbols c.args.writings.now.items c.push.new.self.items c.in_ok-link_fragment_writing.field-0 _ c.in_ok-push.ensures.items c.in_ok-link_fragment_writing.ensures
    ∙ ap (λ more. map in_symbols c.args.writings.now.items ++ more)
    (sym writes ∙ ap (writings_at (basis_of parts) c.args.region.now c.args.id c.args.assoc.now) (sym c.in-Hosted.is))
