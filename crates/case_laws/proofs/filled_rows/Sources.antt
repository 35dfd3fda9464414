-- Whose rows are gathered: each row is that of an entity or of a link, and each that is demanded is gathered.
use Rattle.std.proofs.Common.{◌≡◌, ◌⊎◌, ⊎_elim, inl, inr, ℕ, ◌<◌, List, [], ◌∷◌, map, flat_map, unwrap_or, Contains, Option, Some, sym, ap, subst, ◌∙◌}
use Rattle.std.specs.List.{enumerate_from}
use Rattle.std.specs.Option.{option_map_or}
use Rattle.std.proofs.lemmas.List.Elements.{Contains-append_cases, Contains-append_left, Contains-append_right}
use Rattle.std.proofs.lemmas.Option.{slice_get_within}
use Rattle.emc_base.proofs.Lists.{at_once, item_at}
use Rattle.emc_base.proofs.Mapped.{contains_enumerated, contains_map}
use Rattle.emc_base.proofs.Numbered.{enumerated_at, map_contains}
use Rattle.round_trip.specs.Words.{SetId, AssocId, TableId, Assoc, At, DemandsRow, Entity, EntitySet, Hosted, IsLegal, Link, LinkFragment, State, Table, Value, entities_in, key_of, links_in, row_key}
use Rattle.round_trip.specs.TablesAre.{HasNoClash}
use Rattle.table_files.specs.declared.tables.TableRow.{TableRow}
use Rattle.schema_laws.specs.state_demand.Owners.{IsJoinedTo}
use Rattle.schema_laws.proofs.state_demand.lists.Lists.{contains_flat_map, head_stands, member_of_flat_map, none_in_nil, of_any}
use Rattle.regions.specs.declared.region.Region.{Region}
use Rattle.regions.specs.Basis.{Basis}
use Rattle.regions.specs.region_laws.IsBasis.{AreHostedLinks, IsBasis}
use Rattle.regions.specs.region_laws.Partners.{HasFewPartners}
use Rattle.regions.specs.region_laws.RegionAt.{region_at}
use Rattle.regions.specs.region_laws.Held.{IsAtLinkRow, IsAtRow}
use Rattle.regions.proofs.region_laws.entities.Regions.{region_held}
use Rattle.region_states.proofs.focus.Demanded.{row_of_one}
use Rattle.case_laws.specs.filled_rows.Demanded.{IsHeldWith}
use Rattle.case_laws.specs.filled_rows.Filled.{FillsRows, entity_rows, link_rows}
use Rattle.case_laws.specs.filled_rows.Gathered.{rows_of, rows_of_links, rows_of_set}
use Rattle.case_laws.proofs.filled_rows.Entities.{IsEntityRow, row_of_entity, whole}
use Rattle.case_laws.proofs.filled_rows.Links.{IsJoined, IsLinkRow, IsUnjoined, joined_or_not, row_of_link}

-- rows that are told of entities and links, and a legal state without a clash whose hosted links are told
pub record AreTold (basis : Basis) (local : SetId → Entity → List Hosted → List TableRow) (joined : AssocId → Option (Link → TableRow))
    (hosted : SetId → List Value → List Hosted) (state : State) : Type 0 where
  pub is : IsBasis basis
  pub fills : FillsRows basis local joined
  pub few : (s : SetId) → HasFewPartners basis s
  pub are_hosted : (s : SetId) (entity : Entity) → AreHostedLinks basis state s entity (hosted s (key_of basis.schema.model entity))
  pub legal : IsLegal basis.schema.model state
  pub no_clash : HasNoClash basis.schema state

module _ (basis : Basis) (local : SetId → Entity → List Hosted → List TableRow) (joined : AssocId → Option (Link → TableRow))
    (hosted : SetId → List Value → List Hosted) (state : State) (told : AreTold basis local joined hosted state) where
  abbrev pub all_rows : List TableRow
  all_rows = rows_of basis.schema.model local joined hosted state

  abbrev pub set_rows : ℕ × List Entity → List TableRow
  set_rows entry = rows_of_set basis.schema.model local joined hosted entry

  abbrev pub entity_list : SetId → Entity → List TableRow
  entity_list s entity = local s entity (hosted s (key_of basis.schema.model entity))

  abbrev pub link_list : ℕ × List Link → List TableRow
  link_list entry = rows_of_links basis.schema.model local joined hosted entry

  -- the rows of an entity are those of the region that holds it
  module _ (s : SetId) (set : EntitySet) (is_set : At basis.schema.model.sets s.index set) (entity : Entity) (stands : Contains (entities_in state s) entity) where
    abbrev links : List Hosted
    links = hosted s (key_of basis.schema.model entity)

    abbrev pub region : Region
    region = region_at basis s entity links

    pub held : IsHeldWith basis state s entity links region
    held =
        let by = region_held basis told.is (record { state = state; legal = told.legal; s = s; entity = entity; stands = stands }) links (told.are_hosted s entity) in
        record { stands = stands; hosted = told.are_hosted s entity; listed = by.0; holds = by.1 }

    pub list_is : entity_list s entity ≡ entity_rows basis region entity links
    list_is = told.fills.entities s region held.listed entity links held.holds

    pub in_list : (placed : TableRow) → Contains (entity_list s entity) placed → IsEntityRow basis state s entity placed
    in_list placed among = row_of_entity basis told.is state told.legal s (told.few s) entity links region held told.no_clash placed
        (subst (λ list. Contains list placed) list_is among)

    pub demanded_listed : (t : TableId) (table : Table) (key : List Value) → At basis.schema.store.tables t.index table → IsAtRow basis state s entity t key
        → DemandsRow basis.schema state t key → (placed : TableRow) × Contains (entity_list s entity) placed × (placed.table ≡ t) × (row_key table placed.row ≡ key)
    demanded_listed t table key is_table at demand =
        let Here : TableRow → Type 0 = λ placed. (placed.table ≡ t) × (row_key table placed.row ≡ key) in
        let found = of_any Here (entity_rows basis region entity links)
        (whole basis told.is state told.legal s (told.few s) entity links region held t table key is_table at demand) in
        (found.0, subst (λ list. Contains list found.0) (sym list_is) found.1, found.2.0, found.2.1)

  -- a numbered set of the state
  module _ (entry : ℕ × List Entity) (among : Contains (enumerate_from 0 state.entities) entry) where
    abbrev pub set_of : SetId
    set_of = record { index = entry.0 }

    pub set_here : (set : EntitySet) × At basis.schema.model.sets entry.0 set
    set_here = item_at basis.schema.model.sets entry.0 (subst (λ n. entry.0 < n) told.legal.shape.sets
        (slice_get_within state.entities entry.0 entry.1 (enumerated_at state.entities entry among)))

    pub entities_are : entities_in state set_of ≡ entry.1
    entities_are = ap (λ found. unwrap_or found []) (enumerated_at state.entities entry among)

    pub set_row : (entity : Entity) → Contains entry.1 entity → (placed : TableRow) → Contains (entity_list set_of entity) placed
        → IsEntityRow basis state set_of entity placed
    set_row entity has placed in_rows =
        in_list set_of set_here.0 set_here.1 entity (subst (λ list. Contains list entity) (sym entities_are) has) placed in_rows

  -- a numbered association of the state
  module _ (entry : ℕ × List Link) (among : Contains (enumerate_from 0 state.links) entry) where
    abbrev pub assoc_of : AssocId
    assoc_of = record { index = entry.0 }

    pub links_are : links_in state assoc_of ≡ entry.1
    links_are = ap (λ found. unwrap_or found []) (enumerated_at state.links entry among)

    -- that is joined
    pub record IsJoinedEntry : Type 0 where
      pub t : TableId
      pub fragment : LinkFragment
      pub assoc : Assoc
      pub is_joined : IsJoinedTo basis.schema t fragment assoc
      pub of_assoc : fragment.assoc ≡ assoc_of
      pub of_link : Link → TableRow
      pub each : (link : Link) → link_rows basis fragment.assoc assoc link ≡ of_link link ∷ []
      pub list_is : link_list entry ≡ map of_link entry.1

    pub joined_entry : IsJoined basis told.is assoc_of → IsJoinedEntry
    joined_entry (t, fragment, assoc, is_joined, of_assoc) =
        let by = told.fills.links t fragment assoc is_joined in
        let P : AssocId → Type 0 = λ a. joined a ≡ Some by.0 in
        let is : joined assoc_of ≡ Some by.0 = subst P of_assoc by.1 in
        record {
          t = t;
          fragment = fragment;
          assoc = assoc;
          is_joined = is_joined;
          of_assoc = of_assoc;
          of_link = by.0;
          each = by.2;
          list_is = ap (λ found. option_map_or (λ (of_link : Link → TableRow). map of_link entry.1) found []) is;
        }

    -- or has no rows
    pub entry_or_none : IsJoinedEntry ⊎ (link_list entry ≡ [])
    entry_or_none = ⊎_elim
        (λ (found : IsJoined basis told.is assoc_of). inl (joined_entry found))
        (λ (none : IsUnjoined basis told.is assoc_of).
        inr (ap (λ found. option_map_or (λ (of_link : Link → TableRow). map of_link entry.1) found []) (told.fills.others assoc_of none)))
        (joined_or_not basis told.is assoc_of)

    module _ (by : IsJoinedEntry) where
      pub links_there : links_in state by.fragment.assoc ≡ entry.1
      links_there = ap (links_in state) by.of_assoc ∙ links_are

      pub link_row : (link : Link) → Contains entry.1 link → IsLinkRow basis state by.fragment by.assoc link (by.of_link link)
      link_row link has = row_of_link basis told.is state told.legal told.no_clash by.t by.fragment by.assoc by.is_joined link
          (subst (λ list. Contains list link) (sym links_there) has) (by.of_link link)
          (subst (λ list. Contains list (by.of_link link)) (sym (by.each link)) (head_stands (by.of_link link) []))

    -- each of its rows is that of a link
    pub record IsOfLink (placed : TableRow) : Type 0 where
      pub by : IsJoinedEntry
      pub link : Link
      pub stands : Contains entry.1 link
      pub is_row : IsLinkRow basis state by.fragment by.assoc link placed

    pub in_link_list : (placed : TableRow) → Contains (link_list entry) placed → IsOfLink placed
    in_link_list placed in_rows = ⊎_elim
        (λ (by : IsJoinedEntry).
        let found = map_contains by.of_link entry.1 placed (subst (λ list. Contains list placed) by.list_is in_rows) in
        record { by = by; link = found.0; stands = found.1; is_row = subst (IsLinkRow basis state by.fragment by.assoc found.0) found.2 (link_row by found.0 found.1) })
        (λ (none : link_list entry ≡ []). absurd (none_in_nil placed (subst (λ list. Contains list placed) none in_rows)))
        entry_or_none

  -- each row that is demanded is gathered
  abbrev IsGathered : TableId → Table → List Value → Type 0
  IsGathered t table key = (placed : TableRow) × Contains all_rows placed × (placed.table ≡ t) × (row_key table placed.row ≡ key)

  abbrev of_sets : List TableRow
  of_sets = flat_map set_rows (enumerate_from 0 state.entities)

  abbrev of_assocs : List TableRow
  of_assocs = flat_map link_list (enumerate_from 0 state.links)

  entity_gathered : (t : TableId) (table : Table) (key : List Value) → At basis.schema.store.tables t.index table → DemandsRow basis.schema state t key → (s : SetId) (entity : Entity)
      → IsAtRow basis state s entity t key → IsGathered t table key
  entity_gathered t table key is_table demand s entity at =
      let found = demanded_listed s at.owned.set at.owned.is_set entity at.at.stands t table key is_table at demand in
      let list = item_at state.entities s.index (subst (λ n. s.index < n) (sym told.legal.shape.sets)
      (slice_get_within basis.schema.model.sets s.index at.owned.set at.owned.is_set)) in
      let same : entities_in state s ≡ list.0 = ap (λ one. unwrap_or one []) list.1 in
      let in_set : Contains (set_rows (s.index, list.0)) found.0 =
      contains_flat_map (entity_list s) list.0 entity found.0 (subst (λ one. Contains one entity) same at.at.stands) found.1 in (
        found.0,
        Contains-append_left of_sets of_assocs found.0
            (contains_flat_map set_rows (enumerate_from 0 state.entities) (s.index, list.0) found.0 (contains_enumerated state.entities s.index list.0 list.1) in_set),
        found.2,
        found.3,
      )

  link_gathered : (t : TableId) (table : Table) (key : List Value) → At basis.schema.store.tables t.index table → (fragment : LinkFragment) (assoc : Assoc) (link : Link)
      → IsAtLinkRow basis state fragment assoc link t key → IsGathered t table key
  link_gathered t table key is_table fragment assoc link at =
      let list = item_at state.links fragment.assoc.index (subst (λ n. fragment.assoc.index < n) (sym told.legal.shape.assocs)
      (slice_get_within basis.schema.model.assocs fragment.assoc.index assoc at.joined.is_assoc)) in
      let entry : ℕ × List Link = (fragment.assoc.index, list.0) in
      let same : links_in state fragment.assoc ≡ list.0 = ap (λ one. unwrap_or one []) list.1 in
      let by = told.fills.links t fragment assoc at.joined in
      let placed : TableRow = by.0 link in
      let row = row_of_link basis told.is state told.legal told.no_clash t fragment assoc at.joined link at.stands placed
      (subst (λ one. Contains one placed) (sym (by.2 link)) (head_stands placed [])) in
      let to : placed.table ≡ t = sym row.joined.to_table ∙ at.joined.to_table in
      let P : TableId → Type 0 = λ u. At basis.schema.store.tables u.index row.table in
      let one_table : row.table ≡ table = at_once basis.schema.store.tables t.index row.table table (subst P to row.is_table) is_table in
      let rows_are : link_list entry ≡ map by.0 list.0 =
      ap (λ found. option_map_or (λ (of_link : Link → TableRow). map of_link list.0) found []) by.1 in
      let in_entry : Contains (link_list entry) placed = subst (λ one. Contains one placed) (sym rows_are)
      (contains_map by.0 list.0 link (subst (λ one. Contains one link) same at.stands)) in (
        placed,
        Contains-append_right of_sets of_assocs placed
            (contains_flat_map link_list (enumerate_from 0 state.links) entry placed (contains_enumerated state.links fragment.assoc.index list.0 list.1) in_entry),
        to,
        ap (λ (one : Table). row_key one placed.row) (sym one_table) ∙ row.at_key ∙ sym at.at_key,
      )

  pub demanded_gathered : (t : TableId) (table : Table) (key : List Value) → At basis.schema.store.tables t.index table → DemandsRow basis.schema state t key → IsGathered t table key
  demanded_gathered t table key is_table demand = ⊎_elim
      (λ (found : (s : SetId) × (entity : Entity) × IsAtRow basis state s entity t key). entity_gathered t table key is_table demand found.0 found.1 found.2)
      (λ (found : (fragment : LinkFragment) × (assoc : Assoc) × (link : Link) × IsAtLinkRow basis state fragment assoc link t key).
      link_gathered t table key is_table found.0 found.1 found.2 found.3)
      (row_of_one basis told.is state told.legal t key demand)

  -- a gathered row is that of an entity or of a link
  pub record IsOfSet (placed : TableRow) : Type 0 where
    pub s : SetId
    pub entity : Entity
    pub is_row : IsEntityRow basis state s entity placed

  pub in_set_rows : (entry : ℕ × List Entity) → Contains (enumerate_from 0 state.entities) entry → (placed : TableRow) → Contains (set_rows entry) placed
      → (entity : Entity) × IsEntityRow basis state (record { index = entry.0 }) entity placed
  in_set_rows entry among placed in_rows =
      let found = member_of_flat_map (entity_list (record { index = entry.0 })) entry.1 placed in_rows in
      (found.0, set_row entry among found.0 found.1 placed found.2)

  pub in_of_sets : (placed : TableRow) → Contains of_sets placed → IsOfSet placed
  in_of_sets placed has =
      let found = member_of_flat_map set_rows (enumerate_from 0 state.entities) placed has in
      let by = in_set_rows found.0 found.1 placed found.2 in
      record { s = record { index = found.0.0 }; entity = by.0; is_row = by.1 }

  pub record IsOfAssoc (placed : TableRow) : Type 0 where
    pub fragment : LinkFragment
    pub assoc : Assoc
    pub link : Link
    pub is_row : IsLinkRow basis state fragment assoc link placed

  pub in_of_assocs : (placed : TableRow) → Contains of_assocs placed → IsOfAssoc placed
  in_of_assocs placed has =
      let found = member_of_flat_map link_list (enumerate_from 0 state.links) placed has in
      let of = in_link_list found.0 found.1 placed found.2 in
      record { fragment = of.by.fragment; assoc = of.by.assoc; link = of.link; is_row = of.is_row }

  pub of_either : (placed : TableRow) → Contains all_rows placed → IsOfSet placed ⊎ IsOfAssoc placed
  of_either placed has = ⊎_elim
      (λ (first : Contains of_sets placed). inl (in_of_sets placed first))
      (λ (second : Contains of_assocs placed). inr (in_of_assocs placed second))
      (Contains-append_cases of_sets of_assocs placed has)
