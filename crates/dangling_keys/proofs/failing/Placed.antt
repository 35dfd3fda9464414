-- Of each key that dangles some place names the row of the focus; and the set of the region that is told owns the table to which the key points.
use Rattle.std.proofs.Common.{◌≡◌, Contains, Option, refl, sym, subst, ◌∙◌}
use Rattle.emc_base.proofs.Mapped.{contains_at}
use Rattle.round_trip.specs.Words.{Assoc, AssocId, At, ForeignKey, LinkFragment, Place, SetId, TableId, place_at, written_key}
use Rattle.schema_laws.specs.state_demand.Owners.{IsJoinedTo, IsOwned, paired_key}
use Rattle.schema_laws.specs.state_demand.Writings.{link_writing}
use Rattle.population.specs.LinkStates.{plain_link}
use Rattle.regions.specs.Basis.{Basis}
use Rattle.regions.specs.Patterns.{pattern_of}
use Rattle.regions.specs.Regions.{regions_of}
use Rattle.regions.specs.declared.pattern.Focus.{Focus}
use Rattle.regions.specs.declared.pattern.Focus.TheVariants as focus
use Rattle.regions.specs.declared.region.Region.{Region}
use Rattle.regions.specs.region_laws.IsBasis.{IsBasis}
use Rattle.regions.proofs.region_laws.listing.Listed.{set_is}
use Rattle.region_states.specs.Entities.{focus_entity}
use Rattle.region_states.specs.conflicts.Conflicts.{IsTableOf}
use Rattle.region_states.specs.focus.Held.{HasRow}
use Rattle.region_states.proofs.focus.Listed.{row_joined, row_owned}
use Rattle.dangling_keys.specs.Dangling.{DanglesAt, IsDangling}
use Rattle.dangling_keys.specs.DanglingStates.{IsRowPlace, referring_values}
use Rattle.dangling_keys.specs.Laws.{HasNoClash, HasPlace}
use Rattle.dangling_keys.specs.Outer.{outer_row}
use Rattle.dangling_keys.specs.declared.key.DanglingKey.{DanglingKey}
use Rattle.dangling_keys.proofs.failing.Whole.{own_pairing}
use Rattle.dangling_keys.proofs.referring.Listing.{the_table}

module _ (basis : Basis) (is : IsBasis basis) (key : ForeignKey) (is_key : Contains basis.schema.store.keys key) where
  -- the row of an entity, in a table that its set owns
  entity_named : (s : SetId) (region : Region) → Contains (regions_of basis s) region → HasRow (pattern_of basis (focus.Entity region)) key.from
      → (place : Place) × IsRowPlace basis (focus.Entity region) key place
  entity_named s region listed of_row =
      let found = row_owned basis is s region listed of_row.0 of_row.1 in
      let here = subst (λ (t : TableId). At basis.schema.store.tables t.index found.0) of_row.2 found.2 in
      let by_set : IsOwned basis.schema of_row.0.table region.set found.1 = subst (λ (u : SetId). IsOwned basis.schema of_row.0.table u found.1) (sym (set_is basis s region listed)) found.3 in
      let owned : IsOwned basis.schema key.from region.set found.1 = subst (λ (t : TableId). IsOwned basis.schema t region.set found.1) of_row.2 by_set in (
        place_at found.0.name (paired_key basis.schema.model found.1 (focus_entity basis region (referring_values basis region key))) key.name,
        record { table = found.0; is_table = here; pairing = found.1; owned = owned; is = refl },
      )

  -- and that of the plain link, in its association's own
  link_named : (a : AssocId) (t : TableId) → IsTableOf basis a t → HasRow (pattern_of basis (focus.Link a)) key.from → (place : Place) × IsRowPlace basis (focus.Link a) key place
  link_named a t its =
      let P : AssocId → Type 0 = λ b. HasRow (pattern_of basis (focus.Link b)) key.from → (place : Place) × IsRowPlace basis (focus.Link b) key place in
      subst P its.of_assoc (of_fragment its.fragment its.assoc its.joined)
    where
      of_fragment : (fragment : LinkFragment) (assoc : Assoc) → IsJoinedTo basis.schema t fragment assoc → HasRow (pattern_of basis (focus.Link fragment.assoc)) key.from
          → (place : Place) × IsRowPlace basis (focus.Link fragment.assoc) key place
      of_fragment fragment assoc joined of_row =
          let from_here : key.from ≡ t = sym of_row.2 ∙ row_joined basis is t fragment assoc joined of_row.0 of_row.1 in
          let table = the_table basis is key is_key in
          let outer = outer_row basis (focus.Link fragment.assoc) key in (
            place_at table.0.name (written_key basis.schema.store (link_writing basis.schema.model fragment assoc (plain_link basis.schema.model outer assoc))) key.name,
            record {
              table = table.0;
              is_table = table.1;
              fragment = fragment;
              assoc = assoc;
              joined = subst (λ (u : TableId). IsJoinedTo basis.schema u fragment assoc) (sym from_here) joined;
              of_assoc = refl;
              is = refl;
            },
          )

  row_named : (of : Focus) (principal : Option Region) → DanglesAt basis of key principal → (place : Place) × IsRowPlace basis of key place
  row_named (focus.Entity region) principal dangles = entity_named dangles.of_rows.0 region dangles.of_rows.1 dangles.refers.row
  row_named (focus.Link a) principal dangles = link_named a dangles.of_rows.0 dangles.of_rows.1 dangles.refers.row

pub has_place : (basis : Basis) → HasNoClash basis → (told : DanglingKey) (dangling : IsDangling basis told) → HasPlace basis told dangling
has_place basis given told dangling =
    let is_key = contains_at basis.schema.store.keys told.key.index dangling.key dangling.is_key in
    let named = row_named basis given.sound.is_basis dangling.key is_key told.focus told.principal dangling.dangles in
    let paired = own_pairing basis given dangling.key is_key told.focus told.principal dangling.dangles.lacks in
    record { place = named.0; named = named.1; pairing = paired.0; paired = paired.1 }
