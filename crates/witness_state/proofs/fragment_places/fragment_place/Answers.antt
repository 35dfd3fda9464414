use Rattle.std.proofs.Common.{◌≡◌, [], inl, sym, ap, ◌∙◌}
use Rattle.std.proofs.lemmas.Result.{IfOk-weaker}
use Rattle.round_trip.specs.Words.{Entity, key_of, place_at}
use Rattle.cells.specs.Parts.{schema_in}
use Rattle.regions.specs.declared.pattern.Focus.TheVariants as focus
use Rattle.region_states.specs.region_basis.BasisOf.{basis_of}
use Rattle.region_states.proofs.region_basis.Bases.{basis_is}
use Rattle.failure_laws.specs.Places.{IsFragment}
use Rattle.witness_state.proofs.told.Fragments.{disagrees_so, found_mapped, found_named, found_row, links_differ, links_found, named_there}
use Rattle.witness_state.proofs.fragment_places.fragment_place.Goals as goal

pub returns-then-has_named : goal.returns-then-has_named
returns-then-has_named c =
    let parts = c.args.parts.now in
    let basis = basis_of parts in
    let found = named_there basis (basis_is parts c.requires.first.are) c.args.region.now c.args.name.now (sym c.has_named.ensures ∙ c.if-has_named.true) in
    IfOk-weaker c.key_place.result (λ place. place ≡ place_at c.args.name.now (key_of (schema_in parts).model c.args.entity.now) [])
    (IsFragment basis (focus.Entity c.args.region.now) c.args.name.now)
    (λ place at. inl (found.0, found.1, found.2, at ∙ ap (λ (e : Entity). place_at c.args.name.now (key_of (schema_in parts).model e) []) c.requires.usual)) c.key_place.ensures

pub unreachable-requires : goal.unreachable-requires
unreachable-requires c =
    let parts = c.args.parts.now in
    let is = basis_is parts c.requires.first.are in
    let name = c.args.name.now in
    links_found (basis_of parts) is c.args.region.now name
    (links_differ (basis_of parts) is c.args.region.now name (sym c.has_named.ensures ∙ c.if-has_named.false) (disagrees_so parts c.args.region.now name c.requires.first))
    (sym c.in_default.ensures)

pub host_row_place-requires-clause-mapped : goal.host_row_place-requires-clause-mapped
host_row_place-requires-clause-mapped c =
    let parts = c.args.parts.now in
    found_mapped (basis_of parts) (basis_is parts c.requires.first.are) c.args.region.now c.args.name.now c.in-Some.fragment.now (sym c.in-Some.ensures)

pub host_row_place-requires-clause-row : goal.host_row_place-requires-clause-row
host_row_place-requires-clause-row c =
    let parts = c.args.parts.now in
    let is = basis_is parts c.requires.first.are in
    let name = c.args.name.now in
    found_row (basis_of parts) is c.args.region.now name c.in-Some.fragment.now (sym c.in-Some.ensures)
    (links_differ (basis_of parts) is c.args.region.now name (sym c.has_named.ensures ∙ c.if-has_named.false) (disagrees_so parts c.args.region.now name c.requires.first))

pub host_row_place-requires-clause-named : goal.host_row_place-requires-clause-named
host_row_place-requires-clause-named c =
    let parts = c.args.parts.now in
    found_named (basis_of parts) (basis_is parts c.requires.first.are) c.args.region.now c.args.name.now c.in-Some.fragment.now (sym c.in-Some.ensures)
