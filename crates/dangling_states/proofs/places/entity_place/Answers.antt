use Rattle.std.proofs.Common.{List, subst, ◌∙◌, ap}
use Rattle.round_trip.specs.Words.{Pair}
use Rattle.schema_laws.specs.state_demand.Owners.{paired_key}
use Rattle.dangling_search.specs.Found.{OwnedHere}
use Rattle.region_states.specs.region_basis.BasisOf.{basis_of}
use Rattle.region_states.proofs.region_basis.Bases.{basis_is}
use Rattle.dangling_states.proofs.Placing.{entity_named, row_owner}
use Rattle.dangling_states.proofs.places.entity_place.Goals as goal

pub unreachable-requires : goal.unreachable-requires
unreachable-requires c =
    let basis = basis_of c.args.parts.now in
    let key = c.args.referring.key.now in
    let own = row_owner basis (basis_is c.args.parts.now c.requires.parts) c.args.referring.look.of.now key c.requires.refers c.args.region.now c.requires.of in
    subst (OwnedHere basis key.from) c.in_default.is c.in_ok-owned.ensures c.args.region.now.set own.0 own.1

pub returns : goal.returns
returns c =
    let basis = basis_of c.args.parts.now in
    let key = c.args.referring.key.now in
    entity_named basis (basis_is c.args.parts.now c.requires.parts) c.args.referring.look.of.now key c.requires.refers c.args.region.now c.requires.of
    c.args.referring.row c.requires.referring.row c.args.referring.not_null.now c.requires.referring.not_null c.in_ok-entity.entity c.in_ok-entity.ensures
    c.at-table.result.now c.at-table.ensures c.in-Some.owned.set c.in-Some.owned.pairing (subst (OwnedHere basis key.from) c.in-Some.is c.in_ok-owned.ensures)
    (record { name = c.in_ok-copy.field-0; key = c.in_ok-paired_values.field-0; part = c.in_ok-copy-2.field-0 })
    (λ k. record { name = c.in_ok-copy.ensures k; key = (c.in_ok-paired_values.ensures ∙ ap (λ (pairs : List Pair). paired_key c.args.parts.now.model.now pairs c.in_ok-entity.entity) c.as_slice.ensures.items) k; part = c.in_ok-copy-2.ensures k })
