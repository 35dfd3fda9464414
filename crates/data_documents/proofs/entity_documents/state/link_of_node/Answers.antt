use Rattle.std.proofs.Common.{◌≡◌, Bor, [], Option, Some, None, slice_get, refl, sym, ap, subst, ◌∙◌}
use Rattle.std.specs.Option.{option_copied}
use Rattle.json_form.specs.Nodes.{part_of}
use Rattle.groupings.specs.least_fault.Least.{IsLeast}
use Rattle.round_trip.specs.Words.{Assoc, IsLink}
use Rattle.data_documents.specs.shape_faults.Places.{place_cmp}
use Rattle.data_documents.specs.entity_documents.Names.{independent_at}
use Rattle.data_documents.specs.entity_documents.Shapes.{IsLinkFaultBy}
use Rattle.data_documents.proofs.entity_documents.Fits.{is_found_independent, link_fits}
use Rattle.data_documents.proofs.entity_documents.Places.{none_found}
use Rattle.data_documents.proofs.entity_documents.state.link_of_node.Goals as goal

pub unreachable-requires : goal.unreachable-requires
unreachable-requires c =
    let model = c.args.names.now.model.now in
    let d = part_of c.args.node in
    let P : Option (Bor Assoc) → Type 0 = λ found. IsLeast place_cmp (IsLinkFaultBy model (option_copied found) d) c.in_ok-place.field-0 in
    none_found (IsLinkFaultBy model None d) c.in_ok-place.field-0 c.in_default.not-Some (subst P c.in_default-found.is c.in_ok-place.ensures) [] refl

pub returns : goal.returns
returns c =
    let model = c.args.names.now.model.now in
    let d = part_of c.args.node in
    let assoc : Assoc = c.in-Some-found.found.now in
    let P : Option Assoc → Type 0 = λ found. IsLeast place_cmp (IsLinkFaultBy model found d) c.in_ok-place.field-0 in
    let here : independent_at model c.args.assoc ≡ Some assoc = sym c.independent_at-found.ensures ∙ ap option_copied c.in-Some-found.is in
    record {
      shape = none_found (IsLinkFaultBy model (independent_at model c.args.assoc) d) c.in_ok-place.field-0 c.in_default.not-Some
          (subst P c.independent_at-found.ensures c.in_ok-place.ensures);
      meant = record {
        assoc = assoc;
        here = here;
        is = c.in_ok-link.ensures;
        fits = subst (IsLink model assoc) (sym c.in_ok-link.ensures) (link_fits model assoc d (is_found_independent (slice_get model.assocs c.args.assoc.index) assoc here));
      };
    }
