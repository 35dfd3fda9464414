-- Rows and cells at the key of an entity, or of a link, are those of its pattern.
use Rattle.std.proofs.Common.{◌≡◌, ◌≢◌, ◌↔◌, ◌⊎◌, ⊎_elim, inl, inr, List, ◌++◌, map, All, Contains, Bool, true, false, IsTrue, refl, sym, ap, subst, ◌∙◌}
use Rattle.std.proofs.lemmas.List.{map-append}
use Rattle.std.proofs.lemmas.List.Elements.{All-contains}
use Rattle.emc_base.specs.Lists.{AreApart}
use Rattle.emc_base.proofs.Lists.{item_at}
use Rattle.emc_base.proofs.Mapped.{contains_at, contains_map}
use Rattle.emc_base.proofs.Numbered.{map_contains}
use Rattle.emc_base.proofs.facts.Standing.{some_item}
use Rattle.emc_base.proofs.facts.Pairs.{apart_between}
use Rattle.round_trip.specs.Words.{SetId, TableId, ColId, AssocId, Value, Assoc, Table, LinkFragment, Pair, Entity, Link, State, Writing, WritesRow, DemandsRow, DemandsCell, At, IsLegal, key_columns, key_of, written_key}
use Rattle.round_trip.specs.FailsAt.{IsHostedAt}
use Rattle.round_trip.specs.soundness.mappings.Owners.{IsPlaced}
use Rattle.round_trip.specs.soundness.Stores.{IsSoundTable}
use Rattle.round_trip.proofs.Lookups.{key_columns_at}
use Rattle.schema_laws.specs.state_demand.Owners.{IsHostAt, IsHosted, IsLinkOf, IsOwned, IsWritingOf}
use Rattle.schema_laws.specs.state_demand.WellWritten.{cols_of}
use Rattle.schema_laws.specs.state_demand.Writings.{link_writing}
use Rattle.schema_laws.proofs.state_demand.writings.Given.{given_cell, gives_cell}
use Rattle.schema_laws.proofs.state_demand.lists.Lists.{same_by_key}
use Rattle.schema_laws.proofs.state_demand.owners.Owners.{pairs_from_map}
use Rattle.schema_laws.specs.sound_demand.Local.{IsLocalToLinks}
use Rattle.schema_laws.proofs.sound_demand.Fitting.{link_ids, sound_link}
use Rattle.schema_laws.proofs.sound_demand.Local.{is_local, is_local_to_links}
use Rattle.schema_laws.proofs.sound_demand.owners.OneOwner.{owned_or_joined}
use Rattle.schema_laws.proofs.sound_demand.owners.Owned.{joined_to}
use Rattle.regions.specs.Basis.{Basis, Host, host_end, host_key}
use Rattle.regions.specs.Regions.{model_of}
use Rattle.regions.specs.Symbols.{link_writings, region_writings, SymbolWriting}
use Rattle.regions.specs.Patterns.{by_entity, by_link, is_written, Valuation}
use Rattle.regions.specs.region_laws.Concrete.{AreConcrete, HasSymbol, IsWritingAt, IsWritingOfLink, WritesHosted}
use Rattle.regions.specs.region_laws.IsBasis.{IsBasis, IsHostOf}
use Rattle.regions.proofs.region_laws.writings.Cells.{cells_concrete, rows_concrete}
use Rattle.regions.proofs.region_laws.writings.Patterns.{link_pattern, pairs_at, pairs_beyond, region_pattern}
use Rattle.regions.specs.region_laws.Held.{Standing, LinkedEntity, LinkRow, IsAtRow}

-- the columns of the two ends of a link are different
ends_apart : (fragment : LinkFragment) → AreApart (cols_of (fragment.first ++ fragment.second)) → (b : Bool) (one two : Pair) → Contains (pairs_at b fragment) one
    → Contains (pairs_beyond b fragment) two → one.col ≡ two.col → ⊥
ends_apart fragment apart b one two has_one has_two same = by b has_one has_two
  where
    split : AreApart (cols_of fragment.first ++ cols_of fragment.second)
    split = subst AreApart (map-append (λ (pair : Pair). pair.col) fragment.first fragment.second) apart

    by : (b : Bool) → Contains (pairs_at b fragment) one → Contains (pairs_beyond b fragment) two → ⊥
    by true first second = apart_between (cols_of fragment.first) (cols_of fragment.second) one.col split (contains_map (λ (pair : Pair). pair.col) fragment.first one first)
        (subst (Contains (cols_of fragment.second)) (sym same) (contains_map (λ (pair : Pair). pair.col) fragment.second two second))
    by false second first = apart_between (cols_of fragment.first) (cols_of fragment.second) one.col split
        (subst (Contains (cols_of fragment.first)) (sym same) (contains_map (λ (pair : Pair). pair.col) fragment.first two first))
        (contains_map (λ (pair : Pair). pair.col) fragment.second one second)

-- an association has one link fragment
one_fragment : (basis : Basis) → IsBasis basis → (one two : LinkFragment) → Contains basis.schema.mapping.links one → Contains basis.schema.mapping.links two
    → one.assoc ≡ two.assoc
    → one ≡ two
one_fragment basis is one two has_one has_two same =
    let mapped : LinkFragment → AssocId = λ fragment. fragment.assoc in
    same_by_key mapped basis.schema.mapping.links one two (pairs_from_map (λ
    (a b : AssocId). a ≢ b) mapped basis.schema.mapping.links is.sound.mapping.assocs) has_one has_two same

module _ (basis : Basis) (is : IsBasis basis) (t : TableId) (s : SetId) (pairing : List Pair) (owned : IsOwned basis.schema t s pairing) where
  -- a link fragment to the table that the set owns
  module _ (fragment : LinkFragment) (mapped : Contains basis.schema.mapping.links fragment) (to : fragment.table ≡ t) (assoc : Assoc)
      (here : At (model_of basis).assocs fragment.assoc.index assoc) where
    hosted : IsHosted s pairing assoc fragment
    hosted =
        let P : LinkFragment → Type 0 = λ f. f.table ≡ t → (a : Assoc) → At (model_of basis).assocs f.assoc.index a → IsHosted s pairing a f in
        All-contains P basis.schema.mapping.links fragment owned.links mapped to assoc here

    key_col : (col : ColId) × Contains (key_columns basis.schema.store t) col
    key_col =
        let found = item_at basis.schema.store.tables fragment.table.index (link_ids basis.schema is.sound fragment mapped).table in
        let table : Table = found.0 in
        let At_table : TableId → Type 0 = λ u. At basis.schema.store.tables u.index table in
        let there : At basis.schema.store.tables t.index table = subst At_table to found.1 in
        let sound : IsSoundTable table = All-contains IsSoundTable basis.schema.store.tables table is.sound.store.tables
        (contains_at basis.schema.store.tables t.index table there) in
        some_item (key_columns basis.schema.store t) (λ none. sound.key.some (sym (key_columns_at basis.schema.store t table there) ∙ none))

    -- the pairing isn't written at the end whose columns aren't the primary key
    never_both : (b : Bool) → All (Contains (pairs_at b fragment)) pairing → IsHostedAt basis.schema fragment.table (pairs_beyond b fragment) → ⊥
    never_both b writes at =
        let own = map_contains (λ (pair : Pair). pair.col) pairing key_col.0 (subst (λ cols. Contains cols key_col.0) (sym owned.cols) key_col.1) in
        let there : Contains (key_columns basis.schema.store fragment.table) key_col.0 = subst
        (λ u. Contains (key_columns basis.schema.store u) key_col.0) (sym to) key_col.1 in
        let Among : ColId → Type 0 = λ col. Contains (map (λ (pair : Pair). pair.col) (pairs_beyond b fragment)) col in
        let other = map_contains (λ (pair : Pair). pair.col) (pairs_beyond b fragment) key_col.0 (All-contains Among
        (key_columns basis.schema.store fragment.table) key_col.0 at.whole there) in
        ends_apart fragment hosted.once b own.0 other.0 (All-contains (Contains (pairs_at b fragment)) pairing own.0 writes own.1) other.1 (own.2 ∙ sym other.2)

    abbrev HostAt : Bool → Type 0
    HostAt b = IsHostAt s pairing (host_end b assoc) (pairs_at b fragment)

    -- where the pairing is written the columns are the primary key
    at_key_by : (b : Bool) → HostAt b → IsPlaced basis.schema fragment assoc → IsHostedAt basis.schema fragment.table (pairs_at b fragment)
    at_key_by true host (inl first) = first
    at_key_by true host (inr (inl second)) = absurd (never_both true host.writes second)
    at_key_by false host (inl first) = absurd (never_both false host.writes first)
    at_key_by false host (inr (inl second)) = second
    at_key_by true host (inr (inr joined)) = absurd (owned_or_joined basis.schema is.sound t s pairing fragment assoc owned
        (joined_to basis.schema is.sound t fragment assoc (record { is_fragment = mapped; is_assoc = here; to_table = to }) joined))
    at_key_by false host (inr (inr joined)) = absurd (owned_or_joined basis.schema is.sound t s pairing fragment assoc owned
        (joined_to basis.schema is.sound t fragment assoc (record { is_fragment = mapped; is_assoc = here; to_table = to }) joined))

    -- and the association is hosted at the set
    host_there : (b : Bool) → HostAt b → Contains (basis.hosts s) (record { assoc = fragment.assoc; first_hosts = b })
    host_there b host = (is.hosts s (record { assoc = fragment.assoc; first_hosts = b })).1 (record {
      assoc = assoc;
      fragment = fragment;
      is_assoc = here;
      is_fragment = mapped;
      of_assoc = refl;
      hosted = at_key_by b host (sound_link basis.schema is.sound fragment mapped assoc here).placed;
      at_set = host.of_set;
    })

    -- where the columns are the primary key the pairing is written
    host_by : (b : Bool) → IsHostedAt basis.schema fragment.table (pairs_at b fragment) → HostAt true ⊎ HostAt false → HostAt b
    host_by true at (inl first) = first
    host_by true at (inr second) = absurd (never_both false second.writes at)
    host_by false at (inl first) = absurd (never_both true first.writes at)
    host_by false at (inr second) = second

    of_host : (host : Host) → Contains (basis.hosts s) host → fragment.assoc ≡ host.assoc → HostAt host.first_hosts
    of_host host hosts of_assoc =
        let by : IsHostOf basis.schema s host = (is.hosts s host).0 hosts in
        let same : by.fragment ≡ fragment = one_fragment basis is by.fragment fragment by.is_fragment mapped (by.of_assoc ∙ sym of_assoc) in
        let P : LinkFragment → Type 0 = λ f. IsHostedAt basis.schema f.table (pairs_at host.first_hosts f) in
        host_by host.first_hosts (subst P same by.hosted) hosted.host

  module _ (state : State) (legal : IsLegal (model_of basis) state) (entity : Entity) where
    abbrev AtKey : Assoc → LinkFragment → Link → Bool → Type 0
    AtKey assoc fragment link b = IsHostAt s pairing (host_end b assoc) (pairs_at b fragment) × (host_key b link ≡ key_of (model_of basis) entity)

    link_by : (assoc : Assoc) (fragment : LinkFragment) (link : Link) (b : Bool) → AtKey assoc fragment link b → IsLinkOf basis.schema s pairing assoc fragment link entity
    link_by assoc fragment link true at = inl at
    link_by assoc fragment link false at = inr at

    writing_at : (writing : Writing) → writing.table ≡ t → IsWritingOf basis.schema state s pairing entity writing → IsWritingAt basis state s entity writing
    writing_at writing to (inl (fragment, of_set, writes, same)) = inl (record { fragment = fragment; of_set = of_set; writes = writes; is = same })
    writing_at writing to (inr (fragment, assoc, link, writes, of_link, same)) =
        let to_table : fragment.table ≡ t = sym (ap (λ (one : Writing). one.table) same) ∙ to in
        let by : (b : Bool) → AtKey assoc fragment link b → WritesHosted basis state s entity writing = λ b at. record {
          host = record { assoc = fragment.assoc; first_hosts = b };
          fragment = fragment;
          assoc = assoc;
          link = link;
          hosts = host_there fragment writes.mapped to_table assoc writes.is_assoc b at.0;
          of_assoc = refl;
          writes = writes;
          at_key = at.1;
          is = same;
        } in
        inr (⊎_elim (by true) (by false) of_link)

    writing_of : (writing : Writing) → writing.table ≡ t → IsWritingAt basis state s entity writing → IsWritingOf basis.schema state s pairing entity writing
    writing_of writing to (inl by) = inl (by.fragment, by.of_set, by.writes, by.is)
    writing_of writing to (inr by) =
        let to_table : by.fragment.table ≡ t = sym (ap (λ (one : Writing). one.table) by.is) ∙ to in
        inr (
          by.fragment,
          by.assoc,
          by.link,
          by.writes,
          link_by by.assoc by.fragment by.link by.host.first_hosts
              (of_host by.fragment by.writes.mapped to_table by.assoc by.writes.is_assoc by.host by.hosts by.of_assoc, by.at_key),
          by.is,
        )

module _ (basis : Basis) (is : IsBasis basis) where
  -- the writings to the row of an entity are its own
  pub row_writings : (standing : Standing basis) (t : TableId) (key : List Value) → IsAtRow basis standing.state standing.s standing.entity t key → (writing : Writing)
      → WritesRow basis.schema standing.state t key writing ↔ ((writing.table ≡ t) × IsWritingAt basis standing.state standing.s standing.entity writing)
  row_writings standing t key at writing =
      let local = (is_local basis.schema is.sound standing.state standing.legal t standing.s at.pairing at.owned).whole key standing.entity at.at writing in (
        (λ writes. let by = local.0 writes in
            (by.0, writing_at basis is t standing.s at.pairing at.owned standing.state standing.legal standing.entity writing by.0 by.1)),
        (λ by. local.1 (by.0, writing_of basis is t standing.s at.pairing at.owned standing.state standing.legal standing.entity writing by.0 by.1)),
      )

  module _ (linked : LinkedEntity basis) (t : TableId) (key : List Value) (at : IsAtRow basis linked.state linked.s linked.entity t key) where
    abbrev valuation : Valuation
    valuation = by_entity (model_of basis) linked.entity linked.part

    abbrev symbols : List SymbolWriting
    symbols = region_writings basis linked.region

    abbrev IsOwn : Writing → Type 0
    IsOwn = IsWritingAt basis linked.state linked.s linked.entity

    are : AreConcrete valuation symbols IsOwn
    are = region_pattern basis is linked.state linked.s linked.entity linked.region linked.part linked.held

    own : (writing : Writing) → WritesRow basis.schema linked.state t key writing ↔ ((writing.table ≡ t) × IsOwn writing)
    own = row_writings (record { state = linked.state; legal = linked.legal; s = linked.s; entity = linked.entity; stands = linked.held.stands }) t key at

    pub row_demanded : DemandsRow basis.schema linked.state t key ↔ IsTrue (is_written (region_writings basis linked.region) t)
    row_demanded =
        let told = rows_concrete valuation symbols IsOwn are t in (
          (λ demanded. let by = (own demanded.0).0 demanded.1 in told.0 (demanded.0, by.0, by.1)),
          (λ written. let by = told.1 written in (by.0, (own by.0).1 (by.1, by.2))),
        )

    pub cell_demanded : (col : ColId) (value : Value) → DemandsCell basis.schema linked.state t key col value
        ↔ HasSymbol (by_entity (model_of basis) linked.entity linked.part) (region_writings basis linked.region) t col value
    cell_demanded col value =
        let told = cells_concrete valuation symbols IsOwn are t col value in (
          (λ demanded. told.0 (demanded.0, (own demanded.0).0 demanded.1, gives_cell demanded.0 col value demanded.2)),
          (λ has. let by = told.1 has in (by.0, (own by.0).1 by.1, given_cell by.0 col value by.2)),
        )

-- the table of a joined association
module _ (basis : Basis) (is : IsBasis basis) (row : LinkRow basis) where
  abbrev written : Link → Writing
  written link = link_writing (model_of basis) row.fragment row.assoc link

  abbrev IsOfLink : Writing → Type 0
  IsOfLink = IsWritingOfLink basis row.state row.fragment.assoc row.assoc row.link

  local : IsLocalToLinks basis.schema row.state row.t row.fragment row.assoc
  local = is_local_to_links basis.schema is.sound row.state row.legal row.t row.fragment row.assoc row.at.joined

  -- the writings to the link's row are its own
  link_row_writings : (writing : Writing) → WritesRow basis.schema row.state row.t row.key writing ↔ ((writing.table ≡ row.t) × IsOfLink writing)
  link_row_writings writing = (
    (λ writes.
        let by = local.local row.key writing writes in
        let key_of_it : Writing → List Value = written_key basis.schema.store in
        let same : by.0 ≡ row.link = local.one by.0 row.link by.1 row.at.stands (sym (ap key_of_it by.2) ∙ writes.to_key ∙ row.at.at_key) in
        let P : Link → Type 0 = λ one. writing ≡ written one in (
          writes.to_table,
          record {
            fragment = row.fragment;
            of_assoc = refl;
            writes = record { mapped = row.at.joined.is_fragment; is_assoc = row.at.joined.is_assoc; stands = row.at.stands };
            is = subst P same by.2;
          },
        )),
    (λ by.
        let same : by.1.fragment ≡ row.fragment = one_fragment basis is by.1.fragment row.fragment by.1.writes.mapped row.at.joined.is_fragment by.1.of_assoc in
        let alike : writing ≡ written row.link = by.1.is ∙ ap (λ f. link_writing (model_of basis) f row.assoc row.link) same in
        let At_key : List Value → Type 0 = λ key. WritesRow basis.schema row.state row.t key writing in
        subst At_key (sym row.at.at_key)
        (subst (WritesRow basis.schema row.state row.t (written_key basis.schema.store (written row.link))) (sym alike) (local.writes row.link row.at.stands))),
  )

  are_of_link : AreConcrete (by_link (model_of basis) row.assoc row.link) (link_writings basis row.fragment.assoc) IsOfLink
  are_of_link = link_pattern basis row.state row.fragment.assoc row.assoc row.at.joined.is_assoc row.link row.at.stands

  pub link_row_demanded : DemandsRow basis.schema row.state row.t row.key ↔ IsTrue (is_written (link_writings basis row.fragment.assoc) row.t)
  link_row_demanded =
      let told = rows_concrete (by_link (model_of basis) row.assoc row.link) (link_writings basis row.fragment.assoc) IsOfLink are_of_link row.t in (
        (λ demanded. let by = (link_row_writings demanded.0).0 demanded.1 in told.0 (demanded.0, by.0, by.1)),
        (λ writes. let by = told.1 writes in (by.0, (link_row_writings by.0).1 (by.1, by.2))),
      )

  pub link_cell_demanded : (col : ColId) (value : Value) → DemandsCell basis.schema row.state row.t row.key col value
      ↔ HasSymbol (by_link (model_of basis) row.assoc row.link) (link_writings basis row.fragment.assoc) row.t col value
  link_cell_demanded col value =
      let told = cells_concrete (by_link (model_of basis) row.assoc row.link) (link_writings basis row.fragment.assoc) IsOfLink are_of_link row.t col value in (
        (λ demanded. told.0 (demanded.0, (link_row_writings demanded.0).0 demanded.1, gives_cell demanded.0 col value demanded.2)),
        (λ has. let by = told.1 has in (by.0, (link_row_writings by.0).1 by.1, given_cell by.0 col value by.2)),
      )
