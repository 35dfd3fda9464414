-- The cells of a primary key: each lists one symbol.
use Rattle.std.proofs.Common.{◌≡◌, ◌≢◌, ⊎_elim, inl, inr, ◌++◌, List, [], ◌∷◌, map, if◌then◌else◌, Bool, true, false, AllPairs, Contains, refl, sym, ap, subst, ◌∙◌}
use Rattle.std.proofs.lemmas.List.Elements.{All-contains, Contains-append_cases, Contains-append_left, Contains-append_right}
use Rattle.emc_base.proofs.Mapped.{contains_map}
use Rattle.emc_base.proofs.Numbered.{map_contains}
use Rattle.round_trip.specs.Words.{SetId, TableId, ColId, AssocId, Assoc, Fragment, LinkFragment, Pair, Table, At, key_columns}
use Rattle.round_trip.specs.FailsAt.{IsHostedAt}
use Rattle.round_trip.specs.soundness.mappings.Owners.{Owns}
use Rattle.round_trip.proofs.Lookups.{key_columns_at}
use Rattle.schema_laws.specs.state_demand.Owners.{IsHostAt, IsHosted, IsOfOwner, IsOwned}
use Rattle.schema_laws.specs.state_demand.WellWritten.{FitsTable, cols_of}
use Rattle.schema_laws.proofs.state_demand.lists.Lists.{head_stands, none_in_nil, same_by_key, tail_stands}
use Rattle.schema_laws.proofs.state_demand.owners.Owners.{pairs_from_map}
use Rattle.schema_laws.proofs.state_demand.lists.Permutations.{head_apart}
use Rattle.schema_laws.proofs.sound_demand.Fitting.{well_written}
use Rattle.schema_laws.proofs.sound_demand.owners.Owned.{owned}
use Rattle.regions.specs.region_laws.IsBasis.{IsBasis}
use Rattle.regions.specs.declared.region.Region.{Region}
use Rattle.regions.specs.declared.pattern.Symbol.{Symbol}
use Rattle.regions.specs.declared.pattern.Symbol.TheVariants as symbol
use Rattle.regions.specs.declared.pattern.Focus.TheVariants as focus
use Rattle.regions.specs.Basis.{Basis}
use Rattle.regions.specs.Patterns.{cell_symbols, pattern_of}
use Rattle.regions.specs.Regions.{regions_of}
use Rattle.regions.specs.Symbols.{SymbolWriting, conds_symbols, end_symbols, link_fragment_writing, link_fragments_of, link_writings, region_writings}
use Rattle.regions.specs.region_laws.pattern.Allowed.{end_at}
use Rattle.regions.specs.region_laws.pattern.Listed.{HasCell, IsEndCell, PatternCell, IsKeyPair}
use Rattle.regions.proofs.region_laws.pattern.Cells.{cell_apart, cell_of, listed_written, written_listed, writing_to}
use Rattle.regions.proofs.region_laws.pattern.types.Groups.{no_key_asked}
use Rattle.regions.proofs.region_laws.pattern.symbols.Hosting.{assoc_here, col_once, host_set, hosted_side, one_link, partner_no_key, side_among, side_alike, the_assoc}
use Rattle.regions.proofs.region_laws.pattern.symbols.Origins.{From, IsRegionWriter, by_cond, by_end, by_host, by_pair, chosen_of, is_from, link_of, region_writer, side}
use Rattle.regions.proofs.region_laws.pattern.types.Regions.{parts_of}

-- a list that has only this, and this once
one_alone : {X : Type 0} (xs : List X) (y : X) → AllPairs (λ a b. a ≢ b) xs → ((x : X) → Contains xs x → x ≡ y) → (x : X) → Contains xs x → xs ≡ y ∷ []
one_alone [] y apart only x has = absurd (none_in_nil x has)
one_alone (x ∷ []) y apart only z has = let is : x ≡ y = only x (head_stands x []) in λ k. is k ∷ []
one_alone (x ∷ w ∷ rest) y apart only z has =
    let first : x ≡ y = only x (head_stands x (w ∷ rest)) in
    let second : w ≡ y = only w (tail_stands x (w ∷ rest) w (head_stands w rest)) in
    absurd (head_apart x (w ∷ rest) w apart (head_stands w rest) (first ∙ sym second))

-- a link fragment gives each column of its pairs a symbol
lists_pair : (first_hosts second_hosts : Bool) (fragment : LinkFragment) (pair : Pair) → Contains (fragment.first ++ fragment.second) pair
    → (one : Symbol) × Contains (link_fragment_writing first_hosts second_hosts fragment).cells (pair.col, one)
lists_pair first_hosts second_hosts fragment pair among =
    let ones : List (ColId × Symbol) = end_symbols fragment.assoc true first_hosts fragment.first in
    let twos : List (ColId × Symbol) = end_symbols fragment.assoc false second_hosts fragment.second in
    let given : Bool → Bool → Pair → Symbol = λ first hosts one. if hosts then symbol.Prop one.prop else symbol.End fragment.assoc first one.prop in
    ⊎_elim
    (λ (this : Contains fragment.first pair). (
      given true first_hosts pair,
      Contains-append_left {X = ColId × Symbol} (ones ++ twos) (conds_symbols fragment.conds) (pair.col, given true first_hosts pair)
          (Contains-append_left {X = ColId × Symbol} ones twos (pair.col, given true first_hosts pair)
          (contains_map (λ (one : Pair). (one.col, given true first_hosts one)) fragment.first pair this)),
    ))
    (λ (that : Contains fragment.second pair). (
      given false second_hosts pair,
      Contains-append_left {X = ColId × Symbol} (ones ++ twos) (conds_symbols fragment.conds) (pair.col, given false second_hosts pair)
          (Contains-append_right {X = ColId × Symbol} ones twos (pair.col, given false second_hosts pair)
          (contains_map (λ (one : Pair). (one.col, given false second_hosts one)) fragment.second pair that)),
    ))
    (Contains-append_cases fragment.first fragment.second pair among)

module _ (basis : Basis) (is : IsBasis basis) where
  module _ (s : SetId) (region : Region) (has : Contains (regions_of basis s) region) (t : TableId) where
    -- the set owns the table of each writing
    owns_by : (fragment : LinkFragment) (mapped : Contains basis.schema.mapping.links fragment) → fragment.table ≡ t → (first : Bool)
        → IsHostedAt basis.schema fragment.table (side first fragment) → (end_at first (the_assoc basis is fragment mapped)).set ≡ s → Owns basis.schema t s (side first fragment)
    owns_by fragment mapped to true hosted at_set = inr (
      fragment,
      the_assoc basis is fragment mapped,
      record { is_fragment = mapped; is_assoc = assoc_here basis is fragment mapped; to_table = to },
      inl (subst (λ u. IsHostedAt basis.schema u fragment.first) to hosted, at_set, refl),
    )
    owns_by fragment mapped to false hosted at_set = inr (
      fragment,
      the_assoc basis is fragment mapped,
      record { is_fragment = mapped; is_assoc = assoc_here basis is fragment mapped; to_table = to },
      inr (subst (λ u. IsHostedAt basis.schema u fragment.second) to hosted, at_set, refl),
    )

    owned_by : (writing : SymbolWriting) → writing.table ≡ t → IsRegionWriter basis region writing → (pairing : List Pair) × IsOwned basis.schema t s pairing
    owned_by writing to (inl (fragment, among, is_writing)) =
        let chosen = chosen_of basis region fragment among in
        owned basis.schema is.sound t s fragment.pairs (inl (record {
          fragment = fragment;
          is_fragment = chosen.0;
          to_table = ap (λ (w : SymbolWriting). w.table) is_writing ∙ to;
          of_set = chosen.1.0 ∙ (parts_of basis s region has).of_set;
          pairs_are = refl;
        }))
    owned_by writing to (inr (host, fragment, is_host, linked, among, is_writing)) =
        let link = link_of basis host.assoc fragment among in
        owned basis.schema is.sound t s (side host.first_hosts fragment)
        (owns_by fragment link.0 (ap (λ (w : SymbolWriting). w.table) is_writing ∙ to) host.first_hosts
        (hosted_side basis is fragment link.0 region.set host is_host link.1)
        (host_set basis is fragment link.0 region.set host is_host link.1 ∙ (parts_of basis s region has).of_set))

    module _ (pairing : List Pair) (own : IsOwned basis.schema t s pairing) (pair : Pair) (paired : Contains pairing pair) where
      key_col : Contains (key_columns basis.schema.store t) pair.col
      key_col = subst (λ cols. Contains cols pair.col) own.cols (contains_map (λ (one : Pair). one.col) pairing pair paired)

      of_owner : (fragment : Fragment) → Contains basis.schema.mapping.fragments fragment → fragment.table ≡ t → IsOfOwner s pairing fragment
      of_owner fragment mapped to =
          let P : Fragment → Type 0 = λ f. f.table ≡ t → IsOfOwner s pairing f in
          All-contains P basis.schema.mapping.fragments fragment own.fragments mapped to

      among_ends : (fragment : LinkFragment) → Contains basis.schema.mapping.links fragment → fragment.table ≡ t → Contains (fragment.first ++ fragment.second) pair
      among_ends fragment mapped to =
          let P : LinkFragment → Type 0 = λ f. f.table ≡ t → (a : Assoc) → At basis.schema.model.assocs f.assoc.index a → IsHosted s pairing a f in
          let assoc : Assoc = the_assoc basis is fragment mapped in
          ⊎_elim
          (λ (this : IsHostAt s pairing assoc.first fragment.first).
          Contains-append_left fragment.first fragment.second pair (All-contains (Contains fragment.first) pairing pair this.writes paired))
          (λ (that : IsHostAt s pairing assoc.second fragment.second).
          Contains-append_right fragment.first fragment.second pair (All-contains (Contains fragment.second) pairing pair that.writes paired))
          (All-contains P basis.schema.mapping.links fragment own.links mapped to assoc (assoc_here basis is fragment mapped)).host

      -- nothing else comes to the column
      only_key : (one : Symbol) → From basis (focus.Entity region) t pair.col one → one ≡ symbol.Prop pair.prop
      only_key one (by_pair fragment other mapped to among at_col same chosen) =
          let of = of_owner fragment mapped to in
          let key : Pair → ColId = λ p. p.col in
          let alike : other ≡ pair = same_by_key key fragment.pairs other pair (pairs_from_map (λ (a b : ColId). a ≢ b) key fragment.pairs of.once) among
          (All-contains (Contains fragment.pairs) pairing pair of.writes paired) at_col in
          same ∙ ap (λ (p : Pair). symbol.Prop p.prop) alike
      only_key one (by_host fragment first other mapped to among at_col same hosting) =
          let alike : other ≡ pair = col_once basis is fragment mapped other pair (side_among first fragment other among) (among_ends fragment mapped to) at_col in
          same ∙ ap (λ (p : Pair). symbol.Prop p.prop) alike
      only_key one (by_end fragment first other mapped to among at_col same (host, is_host, linked, of_assoc, end)) =
          let K : TableId → ColId → Type 0 = λ u c. Contains (key_columns basis.schema.store u) c in
          let key : K fragment.table other.col = subst (λ u. K u other.col) (sym to) (subst (λ c. K t c) (sym at_col) key_col) in
          absurd (partner_no_key basis is fragment mapped host.first_hosts (hosted_side basis is fragment mapped region.set host is_host of_assoc) other
          (subst (λ b. Contains (side b fragment) other) end among) key)
      only_key one (by_cond cond asked what gives) = absurd (no_key_asked basis is t pair.col cond asked what key_col)

      lists_key : (writing : SymbolWriting) → writing.table ≡ t → IsRegionWriter basis region writing → (one : Symbol) × Contains writing.cells (pair.col, one)
      lists_key writing to (inl (fragment, among, is_writing)) =
          let chosen = chosen_of basis region fragment among in
          let here = All-contains (Contains fragment.pairs) pairing pair (of_owner fragment chosen.0 (ap (λ (w : SymbolWriting). w.table) is_writing ∙ to)).writes paired in
          let made : Pair → ColId × Symbol = λ p. (p.col, symbol.Prop p.prop) in
          let P : SymbolWriting → Type 0 = λ w. Contains w.cells (pair.col, symbol.Prop pair.prop) in (
            symbol.Prop pair.prop,
            subst P is_writing
                (Contains-append_left {X = ColId × Symbol} (map made fragment.pairs) (conds_symbols fragment.conds) (made pair) (contains_map made fragment.pairs pair here)),
          )
      lists_key writing to (inr (host, fragment, is_host, linked, among, is_writing)) =
          let link = link_of basis host.assoc fragment among in
          let found = lists_pair host.first_hosts (if host.first_hosts then false else true) fragment pair
          (among_ends fragment link.0 (ap (λ (w : SymbolWriting). w.table) is_writing ∙ to)) in
          let P : SymbolWriting → Type 0 = λ w. Contains w.cells (pair.col, found.0) in
          (found.0, subst P is_writing found.1)

      paired_cell : (cell : List Symbol) → HasCell (pattern_of basis (focus.Entity region)) t pair.col cell → cell ≡ symbol.Prop pair.prop ∷ []
      paired_cell cell at =
          let writings : List SymbolWriting = region_writings basis region in
          let of = cell_of basis.schema.store writings t pair.col cell at in
          let writing = writing_to basis.schema.store writings t of.written in
          let found = lists_key writing.0 writing.2 (region_writer basis region writing.0 writing.1) in
          of.is ∙ one_alone (cell_symbols writings t pair.col) (symbol.Prop pair.prop) (cell_apart writings t pair.col)
          (λ one listed. only_key one (is_from basis (focus.Entity region) t pair.col one (listed_written writings t pair.col one listed)))
          found.0 (written_listed writings t pair.col found.0
          (record { writing = writing.0; is_writing = writing.1; to_table = writing.2; has_cell = found.1 }))

  module _ (s : SetId) (region : Region) (has : Contains (regions_of basis s) region) (at : PatternCell basis (focus.Entity region)) where
    -- the set owns the table of each cell
    pub owned_here : (pairing : List Pair) × IsOwned basis.schema at.t s pairing
    owned_here =
        let of = cell_of basis.schema.store (region_writings basis region) at.t at.col at.cell at.has in
        let writing = writing_to basis.schema.store (region_writings basis region) at.t of.written in
        owned_by s region has at.t writing.0 writing.2 (region_writer basis region writing.0 writing.1)

    -- and a cell of the primary key lists the paired property
    pub key_cell : (pair : Pair) → IsKeyPair basis.schema s at.t at.col pair → at.cell ≡ symbol.Prop pair.prop ∷ []
    key_cell pair key =
        let C : ColId → Type 0 = λ col. HasCell (pattern_of basis (focus.Entity region)) at.t col at.cell in
        paired_cell s region has at.t key.pairing key.owned pair key.paired at.cell (subst C (sym key.at_col) at.has)

  module _ (a : AssocId) (t : TableId) (col : ColId) (key : Contains (key_columns basis.schema.store t) col) where
    -- the end that a link's key cell lists
    only_end : (fragment : LinkFragment) (mapped : Contains basis.schema.mapping.links fragment) → fragment.assoc ≡ a → (first : Bool) (pair : Pair)
        → Contains (side first fragment) pair → pair.col ≡ col → (one : Symbol) → From basis (focus.Link a) t col one → one ≡ symbol.End a first pair.prop
    only_end fragment mapped of_assoc first pair among at one (by_pair other pair_too mapped_too to among_too at_col same chosen) = absurd chosen
    only_end fragment mapped of_assoc first pair among at one (by_host other end pair_too mapped_too to among_too at_col same hosting) = absurd hosting
    only_end fragment mapped of_assoc first pair among at one (by_end other end pair_too mapped_too to among_too at_col same partner) =
        let alike : other ≡ fragment = one_link basis is other fragment mapped_too mapped (partner ∙ sym of_assoc) in
        let S : LinkFragment → Type 0 = λ f. Contains (side end f) pair_too in
        let there : Contains (side end fragment) pair_too = subst S alike among_too in
        let cols : pair_too.col ≡ pair.col = at_col ∙ sym at in
        let pairs : pair_too ≡ pair = col_once basis is fragment mapped pair_too pair (side_among end fragment pair_too there) (side_among first fragment pair among) cols in
        let ends : end ≡ first = side_alike basis is fragment mapped end first pair_too pair there among cols in
        same ∙ (λ k. symbol.End (partner k) (ends k) (pairs k).prop)
    only_end fragment mapped of_assoc first pair among at one (by_cond cond asked what gives) = absurd (no_key_asked basis is t col cond asked what key)

    -- the pair of a link fragment that writes a key column
    key_pair : (fragment : LinkFragment) → Contains basis.schema.mapping.links fragment → fragment.table ≡ t → (table : Table) → At basis.schema.store.tables t.index table
        → (pair : Pair) × Contains (fragment.first ++ fragment.second) pair × (pair.col ≡ col)
    key_pair fragment mapped to table here =
        let Here : TableId → Type 0 = λ u. At basis.schema.store.tables u.index table in
        let P : LinkFragment → Type 0 = λ f. (one : Table) → At basis.schema.store.tables f.table.index one → FitsTable one (cols_of (f.first ++ f.second)) f.conds in
        let fits : FitsTable table (cols_of (fragment.first ++ fragment.second)) fragment.conds =
        All-contains P basis.schema.mapping.links fragment (well_written basis.schema is.sound).links mapped table (subst Here (sym to) here) in
        map_contains (λ (one : Pair). one.col) (fragment.first ++ fragment.second) col
        (All-contains (Contains (cols_of (fragment.first ++ fragment.second))) table.key col fits.writes_key
        (subst (λ cols. Contains cols col) (key_columns_at basis.schema.store t table here) key))

    module _ (fragment : LinkFragment) (mapped : Contains basis.schema.mapping.links fragment) (of_assoc : fragment.assoc ≡ a) (to : fragment.table ≡ t)
        (is_writing : Contains (link_writings basis a) (link_fragment_writing false false fragment)) (pair : Pair) (at_col : pair.col ≡ col) where
      -- the cell lists it
      end_listed : (first : Bool) → Contains (side first fragment) pair → cell_symbols (link_writings basis a) t col ≡ symbol.End a first pair.prop ∷ []
      end_listed first among =
          let gives = lists_pair false false fragment pair (side_among first fragment pair among) in
          let C : ColId → Type 0 = λ c. Contains (link_fragment_writing false false fragment).cells (c, gives.0) in
          one_alone (cell_symbols (link_writings basis a) t col) (symbol.End a first pair.prop) (cell_apart (link_writings basis a) t col)
          (λ one listed. only_end fragment mapped of_assoc first pair among at_col one
          (is_from basis (focus.Link a) t col one (listed_written (link_writings basis a) t col one listed)))
          gives.0 (written_listed (link_writings basis a) t col gives.0
          (record { writing = link_fragment_writing false false fragment; is_writing = is_writing; to_table = to; has_cell = subst C at_col gives.1 }))

      end_told : (cell : List Symbol) → cell ≡ cell_symbols (link_writings basis a) t col → (first : Bool) → Contains (side first fragment) pair
          → IsEndCell basis.schema a t col cell
      end_told cell is_cell first among = record {
        fragment = fragment;
        mapped = mapped;
        of_assoc = of_assoc;
        to_table = to;
        first = first;
        pair = pair;
        paired = among;
        at_col = at_col;
        is = is_cell ∙ end_listed first among;
      }

    end_at_key : (cell : List Symbol) → HasCell (pattern_of basis (focus.Link a)) t col cell → IsEndCell basis.schema a t col cell
    end_at_key cell at =
        let writings : List SymbolWriting = link_writings basis a in
        let of = cell_of basis.schema.store writings t col cell at in
        let writing = writing_to basis.schema.store writings t of.written in
        let found = map_contains (link_fragment_writing false false) (link_fragments_of basis a) writing.0 writing.1 in
        let fragment : LinkFragment = found.0 in
        let link = link_of basis a fragment found.1 in
        let to : fragment.table ≡ t = ap (λ (w : SymbolWriting). w.table) found.2 ∙ writing.2 in
        let is_writing : Contains writings (link_fragment_writing false false fragment) = subst (Contains writings) (sym found.2) writing.1 in
        let pair = key_pair fragment link.0 to of.table of.is_table in
        let told : (first : Bool) → Contains (side first fragment) pair.0 → IsEndCell basis.schema a t col cell =
        end_told fragment link.0 link.1 to is_writing pair.0 pair.2 cell of.is in
        ⊎_elim
        (λ (this : Contains fragment.first pair.0). told true this)
        (λ (that : Contains fragment.second pair.0). told false that)
        (Contains-append_cases fragment.first fragment.second pair.0 pair.1)

  pub end_cell : (a : AssocId) (at : PatternCell basis (focus.Link a)) → Contains (key_columns basis.schema.store at.t) at.col → IsEndCell basis.schema a at.t at.col at.cell
  end_cell a at key = end_at_key a at.t at.col key at.cell at.has
