-- The place of the row of the focus.
use Rattle.std.proofs.Common.{◌≡◌, inl, inr, ℕ, List, [], map, Option, sym, ap, subst, ◌∙◌}
use Rattle.std.specs.Option.{option_map_or}
use Rattle.emc_base.proofs.Lists.{at_once}
use Rattle.round_trip.specs.Words.{Assoc, AssocId, At, ColId, Entity, ForeignKey, Fragment, IsWritten, Link, LinkFragment, Pair, Place, PropId, Schema, SetId, Table, TableId, Value, key_columns, link_cells, place_at, written_to}
use Rattle.round_trip.specs.soundness.mappings.Owners.{Owns}
use Rattle.schema_laws.specs.state_demand.Owners.{paired_key}
use Rattle.schema_laws.proofs.sound_demand.owners.OneOwner.{one_owner}
use Rattle.schema_laws.proofs.sound_demand.owners.Owned.{owned}
use Rattle.schema_laws.proofs.state_demand.lists.Lists.{any_of}
use Rattle.population.specs.LinkStates.{plain_link}
use Rattle.regions.specs.Basis.{Basis}
use Rattle.regions.specs.declared.pattern.Focus.{Focus}
use Rattle.regions.specs.declared.pattern.Focus.TheVariants as focus
use Rattle.regions.specs.declared.region.Region.{Region}
use Rattle.regions.specs.region_laws.IsBasis.{IsBasis}
use Rattle.region_states.specs.Entities.{focus_entity}
use Rattle.region_states.specs.conflicts.Conflicts.{IsTableOf}
use Rattle.dangling_keys.specs.Dangling.{OwnsTable}
use Rattle.dangling_keys.specs.DanglingStates.{IsEntityRow, IsLinkRow, referring_values}
use Rattle.dangling_keys.specs.FlowStates.{flow_values}
use Rattle.dangling_keys.specs.Outer.{outer_row}
use Rattle.dangling_keys.specs.Showing.{not_null_for}
use Rattle.witness_state.proofs.Written.{row_owned}
use Rattle.dangling_states.specs.Referring.{Refers}

is_written : (schema : Schema) (t : TableId) (s : SetId) (pairs : List Pair) → Owns schema t s pairs → IsWritten schema.mapping t
is_written schema t s pairs (inl writes) = inl (any_of (λ (f : Fragment). f.table ≡ t) schema.mapping.fragments writes.fragment writes.is_fragment writes.to_table)
is_written schema t s pairs (inr (fragment, assoc, maps, hosts)) = inr (any_of (λ (f : LinkFragment). f.table ≡ t) schema.mapping.links fragment maps.is_fragment maps.to_table)

-- of an entity: the region's set owns the table of its row
module _ (basis : Basis) (is : IsBasis basis) (of : Focus) (key : ForeignKey) (refers : Refers basis of key) (region : Region) (of_is : of ≡ focus.Entity region) where
  here : Refers basis (focus.Entity region) key
  here = subst (λ (it : Focus). Refers basis it key) of_is refers

  pub row_owner : (pairing : List Pair) × OwnsTable basis key.from region.set pairing
  row_owner =
      let by = row_owned basis is region key.from here.refers.row in
      let own = owned basis.schema is.sound key.from region.set by.0 by.1 in
      (own.0, record { owned = own.1; written = is_written basis.schema key.from region.set by.0 by.1 })

  module _ (row : ℕ) (row_is : row ≡ outer_row basis of key) (not_null : List PropId) (not_null_is : not_null ≡ not_null_for basis of key) (entity : Entity)
      (entity_is : entity ≡ focus_entity basis region (flow_values basis row region not_null)) where
    entity_so : entity ≡ focus_entity basis region (referring_values basis region key)
    entity_so = entity_is ∙ (λ k. focus_entity basis region (flow_values basis (row_is k) region (not_null_is k)))
        ∙ ap (λ (it : Focus). focus_entity basis region (flow_values basis (outer_row basis it key) region (not_null_for basis it key))) of_is

    pub entity_named : (table : Table) → At basis.schema.store.tables key.from.index table → (u : SetId) (pairing : List Pair) → OwnsTable basis key.from u pairing
        → (place : Place) → place ≡ place_at table.name (paired_key basis.schema.model pairing entity) key.name
        → IsEntityRow basis key.from key.name region.set (focus_entity basis region (referring_values basis region key)) place
    entity_named table is_table u pairing owns place made =
        let mine = row_owner in
        let same = one_owner basis.schema is.sound key.from u region.set pairing mine.0 owns.owned mine.1.owned owns.written in
        record {
          table = table;
          is_table = is_table;
          pairing = mine.0;
          owned = mine.1.owned;
          is = made ∙ (λ k. place_at table.name (paired_key basis.schema.model (same.1 k) (entity_so k)) key.name);
        }

-- of a link
module _ (basis : Basis) (key : ForeignKey) (a : AssocId) (of_table : IsTableOf basis a key.from) (declared : Assoc) (here : At basis.schema.model.assocs a.index declared) (row : ℕ)
    (row_is : row ≡ outer_row basis (focus.Link a) key) where
  assoc_is : declared ≡ of_table.assoc
  assoc_is = at_once basis.schema.model.assocs a.index declared of_table.assoc here
      (subst (λ (b : AssocId). At basis.schema.model.assocs b.index of_table.assoc) of_table.of_assoc of_table.joined.is_assoc)

  pub link_named : (table : Table) → At basis.schema.store.tables key.from.index table → (fragment : LinkFragment) → fragment ≡ of_table.fragment → (link : Link)
      → link ≡ plain_link basis.schema.model row declared → (cols : List ColId) → cols ≡ table.key → (at : List Value) → at ≡ map (written_to (link_cells basis.schema.model declared fragment link)) cols
      → (place : Place) → place ≡ place_at table.name at key.name → IsLinkRow basis key.from key.name (outer_row basis (focus.Link a) key) a place
  link_named table is_table fragment fragment_is link link_is cols cols_are at at_is place made =
      let link_so : link ≡ plain_link basis.schema.model (outer_row basis (focus.Link a) key) of_table.assoc =
      link_is ∙ (λ k. plain_link basis.schema.model (row_is k) (assoc_is k)) in
      let cols_so : cols ≡ key_columns basis.schema.store of_table.fragment.table = cols_are
      ∙ sym (ap (λ (found : Option Table). option_map_or (λ (one : Table). one.key) found []) is_table) ∙ ap (key_columns basis.schema.store) (sym of_table.joined.to_table) in
      let at_so = at_is ∙ (λ k. map (written_to (link_cells basis.schema.model (assoc_is k) (fragment_is k) (link_so k))) (cols_so k)) in
      record {
        table = table;
        is_table = is_table;
        fragment = of_table.fragment;
        assoc = of_table.assoc;
        joined = of_table.joined;
        of_assoc = of_table.of_assoc;
        is = made ∙ (λ k. place_at table.name (at_so k) key.name);
      }
