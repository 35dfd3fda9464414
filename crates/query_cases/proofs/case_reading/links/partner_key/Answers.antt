use Rattle.std.proofs.Common.{◌≡◌, Bool, sym, ap, subst, ◌∙◌}
use Rattle.std.proofs.lemmas.Option.{slice_get_within}
use Rattle.round_trip.specs.Words.{Assoc, AssocId, At, End, key_props}
use Rattle.table_owners.specs.declared.places.LinkPlace.TheVariants as place
use Rattle.regions.specs.Basis.{partner_end}
use Rattle.regions.specs.region_laws.IsBasis.{IsBasis}
use Rattle.region_states.specs.region_basis.BasisOf.{basis_of}
use Rattle.query_cases.proofs.case_reading.Parts.{assoc_there, hosted_ends, is_told, place_within}
use Rattle.query_cases.proofs.case_reading.links.partner_key.Goals as goal

pub at-declared-requires : goal.at-declared-requires
at-declared-requires c =
    let parts = c.args.parts.now in
    let is : IsBasis (basis_of parts) = c.parts_are_a_basis.ensures.basis parts c.requires.parts in
    let there = assoc_there parts c.requires.parts is c.args.set c.args.assoc c.requires.hosted in
    slice_get_within parts.model.now.assocs c.args.assoc.index there.0 there.1

pub link_place-requires : goal.link_place-requires
link_place-requires c =
    let parts = c.args.parts.now in
    let is : IsBasis (basis_of parts) = c.parts_are_a_basis.ensures.basis parts c.requires.parts in
    place_within parts c.requires.parts is c.args.set c.args.assoc c.requires.hosted

pub unreachable-requires : goal.unreachable-requires
unreachable-requires c =
    let parts = c.args.parts.now in
    let is : IsBasis (basis_of parts) = c.parts_are_a_basis.ensures.basis parts c.requires.parts in
    c.in_default.not-Hosted _ _ (is_told parts c.requires.parts is c.args.set c.args.assoc c.requires.hosted c.link_place.result c.link_place.ensures)

pub returns : goal.returns
returns c =
    let parts = c.args.parts.now in
    let is : IsBasis (basis_of parts) = c.parts_are_a_basis.ensures.basis parts c.requires.parts in
    let told = is_told parts c.requires.parts is c.args.set c.args.assoc c.requires.hosted (place.Hosted c.in-Hosted.first_hosts c.in-Hosted.fragment) c.in-Hosted.ensures in
    let ends : c.in-Hosted.first_hosts ≡ c.requires.hosted.0.first_hosts = hosted_ends c.in-Hosted.first_hosts c.requires.hosted.0.first_hosts _ _ told in
    let declared : Assoc = c.at-declared.result.now in
    let Here : AssocId → Type 0 = λ a. At parts.model.now.assocs a.index declared in
    record {
      host = c.requires.hosted.0;
      assoc = declared;
      is_host = c.requires.hosted.1;
      same_assoc = c.requires.hosted.2;
      is_assoc = subst Here (sym c.requires.hosted.2) c.at-declared.ensures;
      is_key = c.key_props.ensures ∙ ap (λ (end : End). key_props parts.model.now end.ty) c.partner_end.ensures
          ∙ ap (λ (first : Bool). key_props parts.model.now (partner_end first declared).ty) ends;
    }
