use Rattle.std.proofs.Common.{◌<◌, refl, sym, ap, subst, ◌∙◌}
use Rattle.round_trip.specs.Words.{values_of}
use Rattle.cells.specs.Parts.{schema_in}
use Rattle.population.specs.LinkStates.{at_end, entity_at}
use Rattle.witness_state.proofs.links_small.Shared.{assoc_within, at_host, column_within, fragment_within, key_shared, mapped, of_assoc, owner, paired, s, some_pair, table_within}
use Rattle.witness_state.proofs.small_links.places.shared_cell_place.Goals as goal

pub at-declared-requires : goal.at-declared-requires
at-declared-requires c = assoc_within c.args.parts.now c.requires.parts c.args.assoc c.args.first_hosts c.args.fragment c.requires.told

pub at-writing-requires : goal.at-writing-requires
at-writing-requires c = fragment_within c.args.parts.now c.requires.parts c.args.assoc c.args.first_hosts c.args.fragment c.requires.told c.at-declared.result.now c.at-declared.ensures

pub partner_pair-pair-requires : goal.partner_pair-pair-requires
partner_pair-pair-requires c = some_pair c.args.parts.now c.requires.parts c.args.assoc c.args.first_hosts c.args.fragment c.requires.told c.at-declared.result.now c.at-declared.ensures
    c.at-writing.result.now c.at-writing.ensures

pub at-table-requires : goal.at-table-requires
at-table-requires c = table_within c.args.parts.now c.requires.parts c.args.assoc c.args.first_hosts c.args.fragment c.requires.told c.at-declared.result.now c.at-declared.ensures
    c.at-writing.result.now c.at-writing.ensures

pub at-column-requires : goal.at-column-requires
at-column-requires c = column_within c.args.parts.now c.requires.parts c.args.assoc c.args.first_hosts c.args.fragment c.requires.told c.at-declared.result.now c.at-declared.ensures
    c.at-writing.result.now c.at-writing.ensures c.partner_pair-pair.result.now c.partner_pair-pair.ensures c.at-table.result.now c.at-table.ensures

pub pairing-pairing-requires : goal.pairing-pairing-requires
pairing-pairing-requires c = subst (λ n. c.at-writing.result.now.table.index < n) (sym c.requires.parts.cells.pairings.size)
    (table_within c.args.parts.now c.requires.parts c.args.assoc c.args.first_hosts c.args.fragment c.requires.told c.at-declared.result.now c.at-declared.ensures
    c.at-writing.result.now c.at-writing.ensures)

pub returns : goal.returns
returns c =
    let parts = c.args.parts.now in
    let are = c.requires.parts in
    let a = c.args.assoc in
    let first_hosts = c.args.first_hosts in
    let number = c.args.fragment in
    let told = c.requires.told in
    let assoc = c.at-declared.result.now in
    let here = c.at-declared.ensures in
    let fragment = c.at-writing.result.now in
    let there = c.at-writing.ensures in
    let pair = c.partner_pair-pair.result.now in
    let model = (schema_in parts).model in
    let entity_is = c.in_ok-entity.ensures ∙ ap (entity_at model 0) (c.at_end.ensures model 0) in
    let tells = are.cells.pairings.each fragment.table c.pairing-pairing.result.now c.pairing-pairing.ensures in
    let key = c.in_ok-values_of.ensures ∙ (λ k. values_of model (entity_is k) (c.as_slice.ensures.items k))
    ∙ key_shared parts are a first_hosts number told assoc here fragment there c.pairing-pairing.result.now tells (entity_at model 0 (at_end model 0 first_hosts assoc)) in
    record {
      s = s parts are a first_hosts number told assoc here fragment there;
      at = at_host parts are a first_hosts number told assoc here fragment there;
      of_assoc = refl;
      fragment = fragment;
      mapped = mapped parts are a first_hosts number told assoc here fragment there;
      of_fragment = of_assoc parts are a first_hosts number told assoc here fragment there;
      pair = pair;
      paired = paired parts are a first_hosts number told assoc here fragment there pair c.partner_pair-pair.ensures c.at-table.result.now c.at-table.ensures;
      owned = record {
        table = c.at-table.result.now;
        column = c.at-column.result.now;
        has_column = record { is_table = c.at-table.ensures; is_column = c.at-column.ensures };
        pairing = (owner parts are a first_hosts number told assoc here fragment there).0;
        owned = (owner parts are a first_hosts number told assoc here fragment there).1;
      };
      is = λ k. record { name = c.in_ok-copy.ensures k; key = key k; part = c.in_ok-copy-2.ensures k };
    }
