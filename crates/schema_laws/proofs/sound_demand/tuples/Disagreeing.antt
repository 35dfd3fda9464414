-- Where a fragment and the tables disagree, for every sound schema.
use Rattle.std.proofs.Common.{◌≡◌, ◌↔◌, inl, inr, ⊎_elim, List, [], ◌++◌, map, Contains, length, take, drop, refl, sym, ap, subst, ◌∙◌}
use Rattle.std.specs.Option.{option_map_or}
use Rattle.round_trip.specs.Words.{SetId, Value, Assoc, End, Entity, EntitySet, Fragment, IsLegal, IsShownLinkTuple, IsShownTuple, IsWrittenLinkTuple, IsWrittenTuple, Link, LinkFragment, LinkWrites, Pair, Row, Schema, Selects, Shows, ShowsLink, State, Table, Tables, TablesAre, cells_of, entities_in, key_of, key_props, link_cells, links_in, place_at, row_key, rows_in}
use Rattle.round_trip.specs.FailsAt.{Disagrees, IsInOneOnly, element_of, key_in_tuple, keys_in_tuple}
use Rattle.round_trip.specs.soundness.models.Constraints.{IsSoundEnd}
use Rattle.round_trip.specs.soundness.Lookups.{set_key}
use Rattle.round_trip.specs.soundness.mappings.Mappings.{IsSoundSchema}
use Rattle.schema_laws.specs.state_demand.ByRows.{IsLinkedAt, IsSelectedAt}
use Rattle.schema_laws.specs.state_demand.Owners.{IsHostAt, IsHosted, IsLinkOf, IsOfOwner, StandsAt}
use Rattle.schema_laws.specs.state_demand.WellWritten.{cols_of}
use Rattle.schema_laws.specs.state_demand.Writings.{link_writing}
use Rattle.schema_laws.proofs.state_demand.owners.Owners.{link_key}
use Rattle.schema_laws.specs.sound_demand.Disagreeing.{DisagreesAtEntity, DisagreesAtHost, FailsAtEntities, HasHostKey, HasHostedTupleOnly, HasLinkTupleOnly, HasTupleOnly, HidesLink, IsOneOnly, StandsAtHosts, StandsAtLinks, TuplesAreOfEntities, TuplesAreOfHosts, TuplesAreOfLinks, keys_in_row}
use Rattle.schema_laws.specs.sound_demand.Fragments.{IsStoredIn, IsHostedFragment, IsJoinedFragment, IsOwnedFragment}
use Rattle.schema_laws.specs.sound_demand.ReadBack.{HasLinkOf}
use Rattle.schema_laws.proofs.sound_demand.Fitting.{sound_fragment, sound_link, well_written}
use Rattle.schema_laws.proofs.sound_demand.Keys.{inherits_keys}
use Rattle.schema_laws.proofs.sound_demand.tuples.OneRow.{at_linked, at_selected, row_written}
use Rattle.schema_laws.proofs.sound_demand.owners.Pairing.{end_key, key_of_set, sound_assoc}
use Rattle.schema_laws.proofs.sound_demand.ReadBack.{rows_of, rows_of_links}
use Rattle.schema_laws.proofs.sound_demand.tuples.TupleKeys.{first_in_row, first_key_in, key_in_row, keys_in, second_in_row, second_key_in}
use Rattle.schema_laws.proofs.sound_demand.tuples.Tuples.{at_entity, at_host, joined_tuple, linked, same_link_tuple}
use Rattle.schema_laws.proofs.state_demand.owners.Owning.{hosted_at, of_owner as of_owner_at}

-- what is told by another fact
one_only_by : (One Same Other : Type 0) → One ↔ Same → IsOneOnly One Other → IsOneOnly Same Other
one_only_by One Same Other told (inl (one, not)) = inl (told.0 one, not)
one_only_by One Same Other told (inr (other, not)) = inr (other, λ same. not (told.1 same))

module _ (schema : Schema) (sound : IsSoundSchema schema) (state : State) (tables : Tables) (of : IsStoredIn schema state tables) where
  legal : IsLegal schema.model state
  legal = of.legal

  are : TablesAre schema state tables
  are = of.are

  module _ (owner : SetId) (pairing : List Pair) (fragment : Fragment) (table : Table) (is : IsOwnedFragment schema owner pairing fragment table) where
    abbrev cells : Row → List Value
    cells row = cells_of row (cols_of fragment.pairs)

    abbrev key_in : List Value → List Value
    key_in tuple = key_in_tuple schema.model (element_of schema.model fragment.set) fragment.pairs tuple

    abbrev Stands : Row → Entity → Type 0
    Stands row entity = StandsAt schema state owner pairing (row_key table row) entity

    abbrev Only : Row → Entity → Type 0
    Only row entity = DisagreesAtEntity schema state tables owner pairing fragment table row entity

    at_row : (tuple : List Value) → IsInOneOnly (IsWrittenTuple schema state fragment) (IsShownTuple tables fragment) tuple
        ↔ ((row : Row) × Contains (rows_in tables fragment.table) row × (tuple ≡ cells row)
        × IsOneOnly (IsSelectedAt schema state fragment table row) (Shows fragment row))
    at_row = at_selected schema (well_written schema sound) state tables are fragment is.mapped table is.is_table

    selected : (row : Row) (entity : Entity) → Stands row entity → IsSelectedAt schema state fragment table row ↔ Selects schema.model fragment entity
    selected row entity stands = at_entity schema sound state legal tables are fragment is.mapped table is.is_table owner pairing is.owned row entity stands

    of_owner : IsOfOwner owner pairing fragment
    of_owner = of_owner_at schema fragment.table owner pairing is.owned fragment is.mapped refl

    element : element_of schema.model fragment.set ≡ is.owned.set.element
    element = ap (element_of schema.model) of_owner.of_set ∙ ap (λ found. option_map_or (λ (entry : EntitySet). entry.element) found (record { index = 0 })) is.owned.is_set

    key_of_row : (row : Row) (entity : Entity) → Stands row entity → key_in (cells row) ≡ key_of schema.model entity
    key_of_row row entity stands =
        key_in_row schema sound state legal fragment.table table is.is_table owner pairing is.owned row entity stands fragment.pairs
        (sound_fragment schema sound fragment is.mapped).once.props of_owner.writes (element_of schema.model fragment.set) (ap (key_props schema.model) element)

    in_one : (row : Row) (entity : Entity) → Only row entity → IsInOneOnly (IsWrittenTuple schema state fragment) (IsShownTuple tables fragment) (cells row)
    in_one row entity by =
        let told = selected row entity by.stands in
        (at_row (cells row)).1 (
          row,
          by.has_row,
          refl,
          one_only_by (Selects schema.model fragment entity) (IsSelectedAt schema state fragment table row) (Shows fragment row) (told.1, told.0) by.one_only,
        )

    pub of_entities : (key : List Value) → HasTupleOnly schema state tables fragment key ↔ ((row : Row) × (entity : Entity) × Only row entity × (key_of schema.model entity ≡ key))
    of_entities key = (
      (λ (tuple, only, is_key).
          let at = (at_row tuple).0 only in
          let row : Row = at.0 in
          let found = (rows_of schema sound state legal tables are fragment.table table is.is_table owner pairing is.owned).entities row at.1 in
          let entity : Entity = found.0 in
          let one = one_only_by (IsSelectedAt schema state fragment table row) (Selects schema.model fragment entity) (Shows fragment row) (selected row entity found.1) at.3 in
          (row, entity, record { has_row = at.1; stands = found.1; one_only = one }, sym (key_of_row row entity found.1) ∙ ap key_in (sym at.2) ∙ is_key)),
      (λ (row, entity, by, is_key). (cells row, in_one row entity by, key_of_row row entity by.stands ∙ is_key)),
    )

    pub fails_at_entity : (row : Row) (entity : Entity) → Only row entity → Disagrees schema state (place_at fragment.place (key_of schema.model entity) [])
    fails_at_entity row entity by = record {
      tables = tables;
      defined = are;
      tuple = cells row;
      broken = inl (fragment, is.mapped, in_one row entity by, ap (λ key. place_at fragment.place key []) (sym (key_of_row row entity by.stands)));
    }

  module _ (owner : SetId) (pairing : List Pair) (assoc : Assoc) (fragment : LinkFragment) (table : Table) (is : IsHostedFragment schema owner pairing assoc fragment table) where
    abbrev cells_at : Row → List Value
    cells_at row = cells_of row (cols_of (fragment.first ++ fragment.second))

    abbrev StandsHere : Row → Entity → Type 0
    StandsHere row entity = StandsAt schema state owner pairing (row_key table row) entity

    abbrev HostOnly : Row → Entity → Type 0
    HostOnly row entity = DisagreesAtHost schema state tables owner pairing assoc fragment table row entity

    at_link_row : (tuple : List Value) → IsInOneOnly (IsWrittenLinkTuple schema state fragment) (IsShownLinkTuple tables fragment) tuple
        ↔ ((row : Row) × Contains (rows_in tables fragment.table) row × (tuple ≡ cells_at row)
        × IsOneOnly (IsLinkedAt schema state fragment table row) (ShowsLink fragment row))
    at_link_row = at_linked schema (well_written schema sound) state tables are fragment is.to.mapped table is.to.is_table

    hosting : (row : Row) (entity : Entity) → StandsHere row entity
        → IsLinkedAt schema state fragment table row ↔ HasLinkOf schema state owner pairing assoc fragment entity
    hosting row entity stands =
        at_host schema sound state legal tables are fragment is.to.mapped table is.to.is_table assoc is.to.is_assoc owner pairing is.owned row entity stands

    hosted : IsHosted owner pairing assoc fragment
    hosted = hosted_at schema fragment.table owner pairing is.owned fragment assoc is.to.mapped is.to.is_assoc refl

    -- the key of the type at an end that is the owner's
    at_end : (end : End) → IsSoundEnd schema.model end → end.set ≡ owner → key_props schema.model end.ty ≡ key_props schema.model is.owned.set.element
    at_end end is_end of_set =
        let P : SetId → Type 0 = λ s. key_props schema.model end.ty ≡ set_key schema.model s in
        subst P of_set (end_key schema sound end is_end) ∙ key_of_set schema sound owner is.owned.set is.owned.is_set

    first_host : IsHostAt owner pairing assoc.first fragment.first → (row : Row) (entity : Entity) → StandsHere row entity
        → key_in_tuple schema.model assoc.first.ty fragment.first (take (length fragment.first) (cells_at row)) ≡ key_of schema.model entity
    first_host host row entity stands =
        ap (key_in_tuple schema.model assoc.first.ty fragment.first) (first_in_row fragment row)
        ∙ key_in_row schema sound state legal fragment.table table is.to.is_table owner pairing is.owned row entity stands fragment.first
        (sound_link schema sound fragment is.to.mapped assoc is.to.is_assoc).once.first host.writes assoc.first.ty
        (at_end assoc.first (sound_assoc schema sound fragment assoc is.to.is_assoc).first host.of_set)

    second_host : IsHostAt owner pairing assoc.second fragment.second → (row : Row) (entity : Entity) → StandsHere row entity
        → key_in_tuple schema.model assoc.second.ty fragment.second (drop (length fragment.first) (cells_at row)) ≡ key_of schema.model entity
    second_host host row entity stands =
        ap (key_in_tuple schema.model assoc.second.ty fragment.second) (second_in_row fragment row)
        ∙ key_in_row schema sound state legal fragment.table table is.to.is_table owner pairing is.owned row entity stands fragment.second
        (sound_link schema sound fragment is.to.mapped assoc is.to.is_assoc).once.second host.writes assoc.second.ty
        (at_end assoc.second (sound_assoc schema sound fragment assoc is.to.is_assoc).second host.of_set)

    hosts : (row : Row) (entity : Entity) → StandsHere row entity → HasHostKey schema.model owner pairing assoc fragment (cells_at row) (key_of schema.model entity)
    hosts row entity stands = ⊎_elim
        (λ (host : IsHostAt owner pairing assoc.first fragment.first). inl (host, first_host host row entity stands))
        (λ (host : IsHostAt owner pairing assoc.second fragment.second). inr (host, second_host host row entity stands))
        hosted.host

    -- a tuple has one host's key
    host_key : (row : Row) (entity : Entity) → StandsHere row entity → (key : List Value) → HasHostKey schema.model owner pairing assoc fragment (cells_at row) key
        → key_of schema.model entity ≡ key
    host_key row entity stands key (inl (host, is_key)) = sym (first_host host row entity stands) ∙ is_key
    host_key row entity stands key (inr (host, is_key)) = sym (second_host host row entity stands) ∙ is_key

    link_in_one : (row : Row) (entity : Entity) → HostOnly row entity → IsInOneOnly (IsWrittenLinkTuple schema state fragment) (IsShownLinkTuple tables fragment) (cells_at row)
    link_in_one row entity by =
        let told = hosting row entity by.stands in
        (at_link_row (cells_at row)).1 (
          row,
          by.has_row,
          refl,
          one_only_by (HasLinkOf schema state owner pairing assoc fragment entity) (IsLinkedAt schema state fragment table row) (ShowsLink fragment row)
              (told.1, told.0) by.one_only,
        )

    -- a tuple in one only, at its row
    host_at_row : (tuple : List Value) → IsInOneOnly (IsWrittenLinkTuple schema state fragment) (IsShownLinkTuple tables fragment) tuple
        → (row : Row) × (entity : Entity) × HostOnly row entity × (tuple ≡ cells_at row)
    host_at_row tuple only =
        let at = (at_link_row tuple).0 only in
        let row : Row = at.0 in
        let found = (rows_of schema sound state legal tables are fragment.table table is.to.is_table owner pairing is.owned).entities row at.1 in
        let entity : Entity = found.0 in
        let one = one_only_by (IsLinkedAt schema state fragment table row) (HasLinkOf schema state owner pairing assoc fragment entity) (ShowsLink fragment row)
        (hosting row entity found.1) at.3 in
        (row, entity, record { has_row = at.1; stands = found.1; one_only = one }, at.2)

    of_hosts : (key : List Value) → HasHostedTupleOnly schema state tables owner pairing assoc fragment key
        ↔ ((row : Row) × (entity : Entity) × HostOnly row entity × (key_of schema.model entity ≡ key))
    of_hosts key = (
      (λ (tuple, only, is_key).
          let at = host_at_row tuple only in
          let P : List Value → Type 0 = λ values. HasHostKey schema.model owner pairing assoc fragment values key in
          (at.0, at.1, at.2, host_key at.0 at.1 at.2.stands key (subst P at.3 is_key))),
      (λ (row, entity, by, is_key).
          let P : List Value → Type 0 = λ one. HasHostKey schema.model owner pairing assoc fragment (cells_at row) one in
          (cells_at row, link_in_one row entity by, subst P is_key (hosts row entity by.stands))),
    )

    keys_of_hosts : (keys : List Value) → HasLinkTupleOnly schema state tables assoc fragment keys
        ↔ ((row : Row) × (entity : Entity) × HostOnly row entity × (keys_in_row schema assoc fragment row ≡ keys))
    keys_of_hosts keys = (
      (λ (tuple, only, is_keys).
          let at = host_at_row tuple only in
          (at.0, at.1, at.2, ap (keys_in_tuple schema.model assoc fragment) (sym at.3) ∙ is_keys)),
      (λ (row, entity, by, is_keys). (cells_at row, link_in_one row entity by, is_keys)),
    )

    of_link : (row : Row) (entity : Entity) (link : Link) → Contains (rows_in tables fragment.table) row → StandsHere row entity → Contains (links_in state fragment.assoc) link
        → IsLinkOf schema owner pairing assoc fragment link entity → map (λ cell. cell.1) (link_cells schema.model assoc fragment link) ≡ cells_at row
    of_link row entity link has stands has_link hosted_there =
        same_link_tuple schema sound state legal tables are fragment is.to.mapped table is.to.is_table assoc is.to.is_assoc owner pairing is.owned row has entity stands
        link has_link
        hosted_there

    one_link : (entity : Entity) (link other : Link) → Contains (entities_in state owner) entity → Contains (links_in state fragment.assoc) link
        → Contains (links_in state fragment.assoc) other → IsLinkOf schema owner pairing assoc fragment link entity → IsLinkOf schema owner pairing assoc fragment other entity
        → link ≡ other
    one_link entity link other has has_link has_other is_of other_of =
        let writes : LinkWrites schema state fragment assoc link = record { mapped = is.to.mapped; is_assoc = is.to.is_assoc; stands = has_link } in
        let found = row_written schema (well_written schema sound) state tables are fragment.table table is.to.is_table (link_writing schema.model fragment assoc link)
        (inr (fragment, assoc, link, writes, refl)) refl in
        let row : Row = found.0 in
        let key = link_key schema (inherits_keys schema.model sound.model) fragment.table owner pairing is.owned state legal fragment assoc link writes refl entity has is_of in
        let stands : StandsHere row entity = record { stands = has; at_key = sym key ∙ sym found.2 } in
        let same = of_link row entity link found.1 stands has_link is_of ∙ sym (of_link row entity other found.1 stands has_other other_of) in
        let first : link.first ≡ other.first =
        sym (first_key_in schema sound state legal fragment is.to.mapped assoc is.to.is_assoc link has_link)
        ∙ ap (λ tuple. key_in_tuple schema.model assoc.first.ty fragment.first (take (length fragment.first) tuple)) same
        ∙ first_key_in schema sound state legal fragment is.to.mapped assoc is.to.is_assoc other has_other in
        let second : link.second ≡ other.second =
        sym (second_key_in schema sound state legal fragment is.to.mapped assoc is.to.is_assoc link has_link)
        ∙ ap (λ tuple. key_in_tuple schema.model assoc.second.ty fragment.second (drop (length fragment.first) tuple)) same
        ∙ second_key_in schema sound state legal fragment is.to.mapped assoc is.to.is_assoc other has_other in
        λ k. record { first = first k; second = second k }

    pub at_hosts : StandsAtHosts schema state tables owner pairing assoc fragment table
    at_hosts = record {
      tuples = of_hosts;
      keys = keys_of_hosts;
      fails = λ row entity by. record {
        tables = tables;
        defined = are;
        tuple = cells_at row;
        broken = inr (fragment, assoc, is.to.mapped, is.to.is_assoc, link_in_one row entity by, refl);
      };
      hosts = hosts;
      links = λ row entity link has stands has_link is_of.
          ap (keys_in_tuple schema.model assoc fragment) (sym (of_link row entity link has stands has_link is_of))
          ∙ keys_in schema sound state legal fragment is.to.mapped assoc is.to.is_assoc link has_link;
      one = one_link;
    }

  module _ (assoc : Assoc) (fragment : LinkFragment) (table : Table) (is : IsJoinedFragment schema assoc fragment table) where
    abbrev cells_in : Row → List Value
    cells_in row = cells_of row (cols_of (fragment.first ++ fragment.second))

    abbrev Hides : Row → Link → Type 0
    Hides row link = HidesLink schema state tables assoc fragment table row link

    at_joined_row : (tuple : List Value) → IsInOneOnly (IsWrittenLinkTuple schema state fragment) (IsShownLinkTuple tables fragment) tuple
        ↔ ((row : Row) × Contains (rows_in tables fragment.table) row × (tuple ≡ cells_in row)
        × IsOneOnly (IsLinkedAt schema state fragment table row) (ShowsLink fragment row))
    at_joined_row = at_linked schema (well_written schema sound) state tables are fragment is.to.mapped table is.to.is_table

    is_linked : (row : Row) → Contains (rows_in tables fragment.table) row → IsLinkedAt schema state fragment table row
    is_linked row has = linked schema sound state legal tables are fragment is.to.mapped table is.to.is_table assoc is.to.is_assoc is.joined row has

    keys_of_row : (row : Row) (link : Link) → Hides row link → keys_in_tuple schema.model assoc fragment (cells_in row) ≡ link.first ++ link.second
    keys_of_row row link by =
        ap (keys_in_tuple schema.model assoc fragment)
        (sym (joined_tuple schema sound state legal tables are fragment is.to.mapped table is.to.is_table assoc is.to.is_assoc is.joined row
        by.has_row link by.has_link by.of_link))
        ∙ keys_in schema sound state legal fragment is.to.mapped assoc is.to.is_assoc link by.has_link

    hidden_in_one : (row : Row) (link : Link) → Hides row link → IsInOneOnly (IsWrittenLinkTuple schema state fragment) (IsShownLinkTuple tables fragment) (cells_in row)
    hidden_in_one row link by = (at_joined_row (cells_in row)).1 (row, by.has_row, refl, inl (is_linked row by.has_row, by.hidden))

    -- a row in one only isn't shown, since it is linked
    not_shown : (row : Row) → Contains (rows_in tables fragment.table) row → IsOneOnly (IsLinkedAt schema state fragment table row) (ShowsLink fragment row)
        → ¬ ShowsLink fragment row
    not_shown row has (inl (at, not)) = not
    not_shown row has (inr (shown, not)) = absurd (not (is_linked row has))

    pub at_links : StandsAtLinks schema state tables assoc fragment table
    at_links = record {
      tuples = λ keys. (
        (λ (tuple, only, is_keys).
            let at = (at_joined_row tuple).0 only in
            let row : Row = at.0 in
            let found = (rows_of_links schema sound state legal tables are fragment.table table is.to.is_table fragment assoc is.joined).links row at.1 in
            let link : Link = found.0 in
            let by : Hides row link = record { has_row = at.1; has_link = found.1; of_link = found.2; hidden = not_shown row at.1 at.3 } in
            (row, link, by, sym (keys_of_row row link by) ∙ ap (keys_in_tuple schema.model assoc fragment) (sym at.2) ∙ is_keys)),
        (λ (row, link, by, is_keys). (cells_in row, hidden_in_one row link by, keys_of_row row link by ∙ is_keys)),
      );
      fails = λ row link by. record {
        tables = tables;
        defined = are;
        tuple = cells_in row;
        broken =
            inr (fragment, assoc, is.to.mapped, is.to.is_assoc, hidden_in_one row link by, ap (λ keys. place_at fragment.place keys []) (sym (keys_of_row row link by)));
      };
    }

  pub tuples_of_entities : TuplesAreOfEntities schema state tables
  tuples_of_entities = of_entities

  pub fails_at_entities : FailsAtEntities schema state tables
  fails_at_entities = fails_at_entity

  pub tuples_of_hosts : TuplesAreOfHosts schema state tables
  tuples_of_hosts = at_hosts

  pub tuples_of_links : TuplesAreOfLinks schema state tables
  tuples_of_links = at_links
