-- Gathered rows of one table have different keys.
use Rattle.std.proofs.Common.{◌≡◌, ◌≢◌, ⊎_elim, inl, inr, ℕ, ◌<◌, List, [], flat_map, get_or, AllPairs, Contains, Option, sym, ap, subst, ◌∙◌, arith}
use Rattle.std.specs.List.{enumerate_from}
use Rattle.std.proofs.lemmas.List.Elements.{Contains-get_or}
use Rattle.emc_base.proofs.Lists.{at_once}
use Rattle.emc_base.proofs.Numbered.{all_pairs_map}
use Rattle.round_trip.specs.Words.{SetId, AssocId, TableId, Assoc, At, DemandsRow, Entity, EntitySet, Fragment, Hosted, IsWritten, Link, LinkFragment, Pair, Schema, State, Table, Value, Writes, Writing, entities_in, key_of, links_in, row_key, written_key}
use Rattle.table_files.specs.declared.tables.TableRow.{TableRow}
use Rattle.schema_laws.specs.state_demand.Owners.{IsJoinedTo, IsOwned, StandsAt}
use Rattle.schema_laws.specs.state_demand.Writings.{link_writing}
use Rattle.schema_laws.proofs.state_demand.lists.Lists.{any_of}
use Rattle.schema_laws.proofs.state_demand.owners.Owners.{link_is}
use Rattle.schema_laws.proofs.sound_demand.Local.{is_local, is_local_to_links}
use Rattle.schema_laws.proofs.sound_demand.owners.OneOwner.{one_joined, one_owner, owned_or_joined}
use Rattle.regions.specs.declared.pattern.Focus.TheVariants as focus
use Rattle.regions.specs.declared.pattern.PatternRow.{PatternRow}
use Rattle.regions.specs.Basis.{Basis}
use Rattle.regions.specs.Patterns.{Valuation, by_entity, pattern_of, writings_of}
use Rattle.regions.proofs.region_laws.listing.Apart.{numbers_rise}
use Rattle.regions.proofs.region_laws.lists.Choices.{pairs_nil}
use Rattle.regions.proofs.region_laws.writings.Rows.{rows_order}
use Rattle.regions.specs.region_laws.pattern.Allowed.{partner_parts}
use Rattle.case_laws.specs.filled_rows.Filled.{table_row}
use Rattle.case_laws.proofs.filled_rows.Entities.{IsEntityRow}
use Rattle.case_laws.proofs.filled_rows.Links.{IsLinkRow}
use Rattle.case_laws.proofs.filled_rows.Pairs.{pairs_append, pairs_flat_map, pairs_of_members}
use Rattle.case_laws.proofs.filled_rows.Sources.{AreTold, IsJoinedEntry, all_rows, entities_are, entity_list, entry_or_none, in_link_list, in_of_assocs, in_of_sets, in_set_rows, link_list, link_row, links_there, list_is as entity_list_is, region, set_here, set_row, set_rows}

-- a table of which a row is demanded is written
row_written : (schema : Schema) (state : State) (t : TableId) (key : List Value) → DemandsRow schema state t key → IsWritten schema.mapping t
row_written schema state t key (writing, to_row) = by to_row.writes
  where
    by : Writes schema state writing → IsWritten schema.mapping t
    by (inl (fragment, entity, wrote, same)) = inl (any_of (λ (one : Fragment). one.table ≡ t) schema.mapping.fragments fragment wrote.mapped
        (sym (ap (λ (one : Writing). one.table) same) ∙ to_row.to_table))
    by (inr (fragment, assoc, link, wrote, same)) = inr (any_of (λ (one : LinkFragment). one.table ≡ t) schema.mapping.links fragment wrote.mapped
        (sym (ap (λ (one : Writing). one.table) same) ∙ to_row.to_table))

module _ (basis : Basis) (local : SetId → Entity → List Hosted → List TableRow) (joined : AssocId → Option (Link → TableRow))
    (hosted : SetId → List Value → List Hosted) (state : State) (told : AreTold basis local joined hosted state)
    (t : TableId) (table : Table) (is_table : At basis.schema.store.tables t.index table) where
  -- two rows are not both of the table with one key
  abbrev pub AreDifferent : TableRow → TableRow → Type 0
  AreDifferent one other = one.table ≡ t → other.table ≡ t → row_key table one.row ≢ row_key table other.row

  -- a row of the table that is an entity's
  record EntityHere (s : SetId) (entity : Entity) (placed : TableRow) : Type 0 where
    pairing : List Pair
    owned : IsOwned basis.schema t s pairing
    at : StandsAt basis.schema state s pairing (row_key table placed.row) entity
    written : IsWritten basis.schema.mapping t

  entity_here : (s : SetId) (entity : Entity) (placed : TableRow) → placed.table ≡ t → IsEntityRow basis state s entity placed → EntityHere s entity placed
  entity_here s entity placed to row =
      let AtTable : TableId → Type 0 = λ u. At basis.schema.store.tables u.index row.table in
      let same : row.table ≡ table = at_once basis.schema.store.tables t.index row.table table (subst AtTable to row.is_table) is_table in
      let Owned : TableId → Type 0 = λ u. IsOwned basis.schema u s row.pairing in
      let Stands : Table → Type 0 = λ one. StandsAt basis.schema state s row.pairing (row_key one placed.row) entity in
      record {
        pairing = row.pairing;
        owned = subst Owned to row.owned;
        at = subst Stands same row.of_entity;
        written = subst (IsWritten basis.schema.mapping) to (row_written basis.schema state placed.table (row_key row.table placed.row) row.is_filled.demanded);
      }

  -- or a link's
  abbrev LinkHere : LinkFragment → Assoc → Link → TableRow → Type 0
  LinkHere fragment assoc link placed = IsJoinedTo basis.schema t fragment assoc × (row_key table placed.row ≡ written_key basis.schema.store
      (link_writing basis.schema.model fragment assoc link))

  link_here : (fragment : LinkFragment) (assoc : Assoc) (link : Link) (placed : TableRow) → placed.table ≡ t → IsLinkRow basis state fragment assoc link placed
      → LinkHere fragment assoc link placed
  link_here fragment assoc link placed to row =
      let AtTable : TableId → Type 0 = λ u. At basis.schema.store.tables u.index row.table in
      let same : row.table ≡ table = at_once basis.schema.store.tables t.index row.table table (subst AtTable to row.is_table) is_table in
      let Joined : TableId → Type 0 = λ u. IsJoinedTo basis.schema u fragment assoc in
      (subst Joined to row.joined, ap (λ (one : Table). row_key one placed.row) (sym same) ∙ row.at_key)

  -- one entity has one row of the table
  entity_once : (s : SetId) (set : EntitySet) → At basis.schema.model.sets s.index set → (entity : Entity) → Contains (entities_in state s) entity
      → AllPairs AreDifferent (entity_list basis local joined hosted state told s entity)
  entity_once s set is_set entity stands =
      let links : List Hosted = hosted s (key_of basis.schema.model entity) in
      let valuation : Valuation = by_entity basis.schema.model entity (partner_parts basis.schema.model links) in
      let of = focus.Entity (region basis local joined hosted state told s set is_set entity stands) in
      let rows : List PatternRow = (pattern_of basis of).rows in
      subst (AllPairs AreDifferent) (sym (entity_list_is basis local joined hosted state told s set is_set entity stands))
      (all_pairs_map AreDifferent (table_row valuation) rows (λ i j d below within first second.
      let less : (get_or rows i d).table.index < (get_or rows j d).table.index = rows_order basis.schema.store (writings_of basis of) i j d below within in
      let one = ap (λ (u : TableId). u.index) first in
      let two = ap (λ (u : TableId). u.index) second in
      absurd (omega (arith, less, one, two))))

  -- different entities of a set have different keys
  entities_apart : (s : SetId) (x y : Entity) (one two : TableRow) → key_of basis.schema.model x ≢ key_of basis.schema.model y
      → IsEntityRow basis state s x one → IsEntityRow basis state s y two → AreDifferent one two
  entities_apart s x y one two differ of_x of_y first second same =
      let by_x = entity_here s x one first of_x in
      let by_y = entity_here s y two second of_y in
      let pairings = (one_owner basis.schema told.is.sound t s s by_x.pairing by_y.pairing by_x.owned by_y.owned by_x.written).1 in
      let Stands : List Pair → Type 0 = λ pairing. StandsAt basis.schema state s pairing (row_key table two.row) y in
      let AtKey : List Value → Type 0 = λ key. StandsAt basis.schema state s by_x.pairing key y in
      let there : AtKey (row_key table one.row) = subst AtKey (sym same) (subst Stands (sym pairings) by_y.at) in
      let alike : x ≡ y = (is_local basis.schema told.is.sound state told.legal t s by_x.pairing by_x.owned).one (row_key table one.row) x y by_x.at there in
      differ (ap (key_of basis.schema.model) alike)

  set_once : (entry : ℕ × List Entity) → Contains (enumerate_from 0 state.entities) entry → AllPairs AreDifferent (set_rows basis local joined hosted state told entry)
  set_once entry among =
      let s : SetId = record { index = entry.0 } in
      let set = set_here basis local joined hosted state told entry among in
      let are = entities_are basis local joined hosted state told entry among in
      let Differ : Entity → Entity → Type 0 = λ x y. key_of basis.schema.model x ≢ key_of basis.schema.model y in
      pairs_flat_map Differ AreDifferent (entity_list basis local joined hosted state told s) entry.1
      (λ entity has. entity_once s set.0 set.1 entity (subst (λ list. Contains list entity) (sym are) has))
      (λ x y one two has_x has_y differ in_x in_y. entities_apart s x y one two differ (set_row basis local joined hosted state told entry among x has_x one in_x)
      (set_row basis local joined hosted state told entry among y has_y two in_y))
      (subst (AllPairs Differ) are (told.legal.sets s set.0 set.1).keys)

  -- different sets have rows of different tables
  sets_once : AllPairs AreDifferent (flat_map (set_rows basis local joined hosted state told) (enumerate_from 0 state.entities))
  sets_once = pairs_flat_map (λ (one : ℕ × List Entity) (next : ℕ × List Entity). one.0 < next.0) AreDifferent (set_rows basis local joined hosted state told)
      (enumerate_from 0 state.entities) set_once
      (λ one next x y has_one has_next less in_one in_next first second same.
      let of_x = in_set_rows basis local joined hosted state told one has_one x in_one in
      let of_y = in_set_rows basis local joined hosted state told next has_next y in_next in
      let by_x = entity_here (record { index = one.0 }) of_x.0 x first of_x.1 in
      let by_y = entity_here (record { index = next.0 }) of_y.0 y second of_y.1 in
      let owners = (one_owner basis.schema told.is.sound t (record { index = one.0 }) (record { index = next.0 }) by_x.pairing by_y.pairing by_x.owned by_y.owned by_x.written).0 in
      let number = ap (λ (s : SetId). s.index) owners in
      absurd (omega (arith, less, number)))
      (numbers_rise state.entities)

  -- a link stands once
  links_apart : (fragment : LinkFragment) (assoc : Assoc) → At basis.schema.model.assocs fragment.assoc.index assoc
      → AllPairs (λ link other. link ≢ other) (links_in state fragment.assoc)
  links_apart fragment assoc here i j d below within =
      let links : List Link = links_in state fragment.assoc in
      let is = link_is basis.schema.model state told.legal fragment assoc here (get_or links j d) (Contains-get_or links j d within) in
      (told.legal.links fragment.assoc assoc here is.independent).once i j d below within

  entry_once : (entry : ℕ × List Link) → Contains (enumerate_from 0 state.links) entry → AllPairs AreDifferent (link_list basis local joined hosted state told entry)
  entry_once entry among = ⊎_elim
      (λ (by : IsJoinedEntry basis local joined hosted state told entry among).
      let there = links_there basis local joined hosted state told entry among by in
      let row : (link : Link) → Contains entry.1 link → IsLinkRow basis state by.fragment by.assoc link (by.of_link link) =
      link_row basis local joined hosted state told entry among by in
      let stands : (link : Link) → Contains entry.1 link → Contains (links_in state by.fragment.assoc) link =
      λ link has. subst (λ list. Contains list link) (sym there) has in
      let Linked : Link → Link → Type 0 = λ link other. AreDifferent (by.of_link link) (by.of_link other) in
      subst (AllPairs AreDifferent) (sym by.list_is) (all_pairs_map AreDifferent by.of_link entry.1
      (pairs_of_members Linked (λ link other. link ≢ other) entry.1
      (λ link other has_link has_other differ first second same.
      let one = link_here by.fragment by.assoc link (by.of_link link) first (row link has_link) in
      let two = link_here by.fragment by.assoc other (by.of_link other) second (row other has_other) in
      differ ((is_local_to_links basis.schema told.is.sound state told.legal t by.fragment by.assoc one.0).one link other (stands link has_link) (stands other has_other)
      (sym one.1 ∙ same ∙ two.1)))
      (subst (AllPairs (λ link other. link ≢ other)) there
      (links_apart by.fragment by.assoc by.is_joined.is_assoc)))))
      (λ (none : link_list basis local joined hosted state told entry ≡ []). subst (AllPairs AreDifferent) (sym none) (pairs_nil AreDifferent))
      (entry_or_none basis local joined hosted state told entry among)

  -- different associations have rows of different tables
  assocs_once : AllPairs AreDifferent (flat_map (link_list basis local joined hosted state told) (enumerate_from 0 state.links))
  assocs_once = pairs_flat_map (λ (one : ℕ × List Link) (next : ℕ × List Link). one.0 < next.0) AreDifferent (link_list basis local joined hosted state told)
      (enumerate_from 0 state.links) entry_once
      (λ one next x y has_one has_next less in_one in_next first second same.
      let of_x = in_link_list basis local joined hosted state told one has_one x in_one in
      let of_y = in_link_list basis local joined hosted state told next has_next y in_next in
      let by_x = link_here of_x.by.fragment of_x.by.assoc of_x.link x first of_x.is_row in
      let by_y = link_here of_y.by.fragment of_y.by.assoc of_y.link y second of_y.is_row in
      let fragments = (one_joined basis.schema told.is.sound t of_x.by.fragment of_y.by.fragment of_x.by.assoc of_y.by.assoc by_x.0 by_y.0).0 in
      let number = ap (λ (a : AssocId). a.index) (sym of_x.by.of_assoc ∙ ap (λ (f : LinkFragment). f.assoc) fragments ∙ of_y.by.of_assoc) in
      absurd (omega (arith, less, number)))
      (numbers_rise state.links)

  pub rows_once : AllPairs AreDifferent (all_rows basis local joined hosted state told)
  rows_once = pairs_append AreDifferent (flat_map (set_rows basis local joined hosted state told) (enumerate_from 0 state.entities))
      (flat_map (link_list basis local joined hosted state told) (enumerate_from 0 state.links)) sets_once assocs_once
      (λ x y in_sets in_assocs first second same.
      let of_x = in_of_sets basis local joined hosted state told x in_sets in
      let of_y = in_of_assocs basis local joined hosted state told y in_assocs in
      let by_x = entity_here of_x.s of_x.entity x first of_x.is_row in
      let by_y = link_here of_y.fragment of_y.assoc of_y.link y second of_y.is_row in
      absurd (owned_or_joined basis.schema told.is.sound t of_x.s by_x.pairing of_y.fragment of_y.assoc by_x.owned by_y.0))
