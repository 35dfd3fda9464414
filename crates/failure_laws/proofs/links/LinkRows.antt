-- The row of a link in the table of its joined association: a state that holds the link fails there where the pattern says so.
use Rattle.std.proofs.Common.{◌≡◌, ◌≢◌, ◌⊎◌, ⊎_elim, inl, inr, ◌++◌, List, [], ◌∷◌, Contains, Bool, true, false, true≢false, IsTrue, refl, sym, ap, subst, ◌∙◌}
use Rattle.std.proofs.lemmas.Bool.{and_parts}
use Rattle.std.proofs.lemmas.List.Elements.{All-contains}
use Rattle.graphs.proofs.base_chains.orders.Orders.{place_of_member}
use Rattle.emc_base.proofs.Lists.{all_from_members, only_member}
use Rattle.emc_base.proofs.Mapped.{contains_map}
use Rattle.emc_base.proofs.facts.Tests.{fails_by}
use Rattle.round_trip.specs.Words.{ColId, Column, DemandsCell, IsLegal, Assoc, AssocId, Link, LinkFragment, Null, Pair, PropId, State, Table, TableId, Value, key_columns, links_in, place_at, written_key}
use Rattle.round_trip.specs.FailsAt.{Clashes, HasColumn, LeavesNull}
use Rattle.round_trip.specs.declared.FailKind.TheVariants as kind
use Rattle.schema_laws.specs.state_demand.Owners.{IsJoinedTo}
use Rattle.schema_laws.specs.state_demand.WellWritten.{cols_of}
use Rattle.schema_laws.specs.state_demand.Writings.{link_writing}
use Rattle.schema_laws.proofs.state_demand.writings.Decisions.{value_or_not}
use Rattle.schema_laws.proofs.state_demand.writings.Selecting.{Decides-value}
use Rattle.regions.specs.declared.pattern.Focus.{Focus}
use Rattle.regions.specs.declared.pattern.Focus.TheVariants as focus
use Rattle.regions.specs.declared.pattern.PatternRow.{PatternRow}
use Rattle.regions.specs.declared.pattern.Symbol.{Symbol}
use Rattle.regions.specs.declared.pattern.Symbol.TheVariants as symbol
use Rattle.regions.specs.Basis.{Basis}
use Rattle.regions.specs.Patterns.{Valuation, by_link, pattern_of, value_under, writings_of}
use Rattle.regions.specs.Settled.{Possible, has_clash, possible, single}
use Rattle.regions.specs.region_laws.Held.{LinkRow}
use Rattle.regions.specs.region_laws.IsBasis.{IsBasis}
use Rattle.regions.specs.region_laws.pattern.Allowed.{AllowedFocus, CanBe, IsAllowedLink}
use Rattle.regions.specs.region_laws.pattern.Described.{HasTwoSymbols, IsClearRow}
use Rattle.regions.specs.region_laws.pattern.Listed.{HasCell, Lists}
use Rattle.regions.proofs.region_laws.pattern.Cells.{cell_of as made_cell}
use Rattle.regions.proofs.region_laws.pattern.Keys.{end_cell}
use Rattle.regions.proofs.region_laws.pattern.Laws.{listed_from, symbol_possible}
use Rattle.regions.proofs.region_laws.pattern.Settled.{clash_decided}
use Rattle.regions.proofs.region_laws.pattern.symbols.Hosting.{side_among}
use Rattle.regions.proofs.region_laws.pattern.symbols.Standing.{end_of, link_no_prop}
use Rattle.regions.proofs.region_laws.pattern.values.Allowed.{link_allowed}
use Rattle.region_states.specs.conflicts.Facts.{can_be_null, has_row, is_null_in, is_required, listed_in, stands_for_null}
use Rattle.region_states.specs.conflicts.There.{NoneFailsBy}
use Rattle.region_states.specs.focus.Held.{ListsValue}
use Rattle.region_states.proofs.focus.Demanded.{link_cells, link_rows}
use Rattle.region_states.proofs.focus.Listed.{row_joined}
use Rattle.conflict_laws.proofs.clash.Clashing.{IsClash}
use Rattle.conflict_laws.proofs.clash.Listed.{cell_is}
use Rattle.conflict_laws.proofs.null.Listed.{Decides-row}
use Rattle.conflict_laws.proofs.null.Nulls.{stands_listed}
use Rattle.conflict_laws.proofs.null.Required.{told_needed}

-- the symbol can have one value alone
abbrev pub HasOneValue : Basis → Symbol → Type 0
HasOneValue basis one = (value : Value) × (possible basis.schema.model [] one ≡ single value)

module _ (basis : Basis) (is : IsBasis basis) (t : TableId) (fragment : LinkFragment) (assoc : Assoc) (joined : IsJoinedTo basis.schema t fragment assoc) where
  abbrev pub LinkFocus : Focus
  LinkFocus = focus.Link fragment.assoc

  -- its pattern lists symbols in the one table alone
  pub listed_table : (u : TableId) (col : ColId) (one : Symbol) → Lists (pattern_of basis LinkFocus) u col one → u ≡ t
  listed_table u col one lists = sym lists.1.of_table ∙ row_joined basis is t fragment assoc joined lists.1.row lists.1.is_row

  module _ (col : ColId) (cell : List Symbol) (here : HasCell (pattern_of basis LinkFocus) t col cell) where
    is_it : (one other : Symbol) → cell ≡ one ∷ [] → other ≡ one → cell ≡ other ∷ []
    is_it one other alone same = let P : Symbol → Type 0 = λ it. cell ≡ it ∷ [] in subst P (sym same) alone

    -- an end is the only symbol of its cell, since it is in the primary key
    end_alone : (a : AssocId) (first : Bool) (p : PropId) → Contains cell (symbol.End a first p) → cell ≡ symbol.End a first p ∷ []
    end_alone a first p listed =
        let from = end_of basis LinkFocus t col a first p (listed_from basis is LinkFocus t col (symbol.End a first p) (cell, here, listed)) in
        let Only : LinkFragment → Type 0 = λ other. other.table ≡ t → other ≡ fragment in
        let same : from.fragment ≡ fragment = All-contains Only basis.schema.mapping.links from.fragment joined.links from.mapped from.to_table in
        let Has : LinkFragment → Type 0 = λ other. Contains (other.first ++ other.second) from.pair in
        let among : Has fragment = subst Has same (side_among first from.fragment from.pair from.paired) in
        let key : Contains (key_columns basis.schema.store t) col = subst (Contains (key_columns basis.schema.store t)) from.at_col
        (All-contains (Contains (key_columns basis.schema.store t)) (cols_of (fragment.first ++ fragment.second)) from.pair.col joined.whole
        (contains_map (λ (pair : Pair). pair.col) (fragment.first ++ fragment.second) from.pair among)) in
        let alone = end_cell basis is fragment.assoc (record { t = t; col = col; cell = cell; has = here }) key in
        let other : symbol.End a first p ≡ symbol.End fragment.assoc alone.first alone.pair.prop = only_member cell (symbol.End fragment.assoc alone.first alone.pair.prop) (symbol.End a first p) alone.is listed in
        is_it (symbol.End fragment.assoc alone.first alone.pair.prop) (symbol.End a first p) alone.is other

    -- a symbol can have one value alone, or it is the only one of its cell
    pub value_or_alone : (one : Symbol) → Contains cell one → HasOneValue basis one ⊎ (cell ≡ one ∷ [])
    value_or_alone symbol.Null listed = inl (Null, refl)
    value_or_alone (symbol.Const value) listed = inl (value, refl)
    value_or_alone (symbol.Prop p) listed =
        absurd (link_no_prop basis is fragment.assoc t col p (listed_from basis is LinkFocus t col (symbol.Prop p) (cell, here, listed)))
    value_or_alone (symbol.End a first p) listed = inr (end_alone a first p listed)

    -- one that can be null can have one value alone
    pub null_is_one : (one : Symbol) → Contains cell one → IsTrue (can_be_null (possible basis.schema.model [] one)) → possible basis.schema.model [] one ≡ single Null
    null_is_one symbol.Null listed told = refl
    null_is_one (symbol.Const value) listed told = ap single ((Decides-value value Null).0 told)
    null_is_one (symbol.Prop p) listed told =
        absurd (link_no_prop basis is fragment.assoc t col p (listed_from basis is LinkFocus t col (symbol.Prop p) (cell, here, listed)))
    null_is_one (symbol.End a first p) listed told = absurd (true≢false (sym told))

  -- a link of a legal state
  module _ (state : State) (legal : IsLegal basis.schema.model state) (link : Link) (stands : Contains (links_in state fragment.assoc) link) where
    abbrev pub link_values : Valuation
    link_values = by_link basis.schema.model assoc link

    abbrev pub link_key : List Value
    link_key = written_key basis.schema.store (link_writing basis.schema.model fragment assoc link)

    abbrev pub link_row : LinkRow basis
    link_row = record {
      state = state;
      legal = legal;
      fragment = fragment;
      assoc = assoc;
      link = link;
      t = t;
      key = link_key;
      at = record { joined = joined; stands = stands; at_key = refl };
    }

    pub allowed : IsAllowedLink basis fragment.assoc link_values
    allowed = link_allowed basis is
        (record { state = state; legal = legal; a = fragment.assoc; assoc = assoc; is_assoc = joined.is_assoc; link = link; stands = stands })

    abbrev pub told_link : AllowedFocus basis
    told_link = record { of = LinkFocus; is_focus = (assoc, joined.is_assoc); values = link_values; allowed = allowed }

    -- the cell is to hold the value of each symbol that is listed
    pub demanded : (col : ColId) (one : Symbol) → Lists (pattern_of basis LinkFocus) t col one → DemandsCell basis.schema state t link_key col (value_under link_values one)
    demanded col one lists = (link_cells basis is link_row col (value_under link_values one)).1 (one, lists, refl)

    -- and no other
    pub listed_of : (col : ColId) (value : Value) → DemandsCell basis.schema state t link_key col value → ListsValue (pattern_of basis LinkFocus) link_values t col value
    listed_of col value demand = (link_cells basis is link_row col value).0 demand

    -- a symbol that can have one value alone has it
    pub value_is : (col : ColId) (one : Symbol) → Lists (pattern_of basis LinkFocus) t col one → (value : Value) → possible basis.schema.model [] one ≡ single value
        → value_under link_values one ≡ value
    value_is col one lists value is_one =
        let P : Possible → Type 0 = λ can. CanBe can (value_under link_values one) in
        subst P is_one (symbol_possible basis is told_link t col one lists)

    -- two symbols that clash have two values
    pub two_values : (col : ColId) (one two : Symbol) → IsClash basis LinkFocus t col one two → value_under link_values one ≢ value_under link_values two
    two_values col one two clash same =
        let cell : List Symbol = clash.lists_one.0 in
        let here : HasCell (pattern_of basis LinkFocus) t col cell = clash.lists_one.1 in
        let one_cell : clash.lists_two.0 ≡ cell = sym (cell_is basis LinkFocus t col clash.lists_two.0 clash.lists_two.1) ∙ cell_is basis LinkFocus t col cell here in
        let lists_two : Contains cell two = subst (λ list. Contains list two) one_cell clash.lists_two.2 in
        ⊎_elim
        (λ (first : HasOneValue basis one). ⊎_elim
        (λ (second : HasOneValue basis two).
        let values : second.0 ≡ first.0 = sym (value_is col two clash.lists_two second.0 second.1) ∙ sym same ∙ value_is col one clash.lists_one first.0 first.1 in
        clash.clash.not_alike (first.0, first.1, second.1 ∙ ap single values))
        (λ (alone : cell ≡ two ∷ []). clash.clash.different (only_member cell two one alone clash.lists_one.2))
        (value_or_alone col cell here two lists_two))
        (λ (alone : cell ≡ one ∷ []). clash.clash.different (sym (only_member cell one two alone lists_two)))
        (value_or_alone col cell here one clash.lists_one.2)

    module _ (col : ColId) (table : Table) (column : Column) (has_column : HasColumn basis.schema t table col column) where
      -- so the state clashes in the link's row
      abbrev pub row_clashes : (one two : Symbol) → IsClash basis LinkFocus t col one two → Clashes basis.schema state (place_at table.name link_key column.name)
      row_clashes one two clash = record {
        t = t;
        table = table;
        col = col;
        column = column;
        key = link_key;
        one = value_under link_values one;
        two = value_under link_values two;
        has_column = has_column;
        demands_one = demanded col one clash.lists_one;
        demands_two = demanded col two clash.lists_two;
        different = two_values col one two clash;
        place_is = refl;
      }

      -- where no legal state clashes, what is demanded beside null is null
      beside_null : NoneFailsBy basis.schema kind.Clash → (value : Value) → DemandsCell basis.schema state t link_key col Null → DemandsCell basis.schema state t link_key col value
          → value ≡ Null
      beside_null none value null other = ⊎_elim
          (λ (is_null : value ≡ Null). is_null)
          (λ (apart : value ≢ Null). absurd (none (place_at table.name link_key column.name) state state (record {
            legal = legal;
            fails = record {
              t = t;
              table = table;
              col = col;
              column = column;
              key = link_key;
              one = value;
              two = Null;
              has_column = has_column;
              demands_one = other;
              demands_two = null;
              different = apart;
              place_is = refl;
            };
          })))
          (value_or_not value Null)

      -- where a symbol stands for null, and the column isn't nullable, the state leaves null in the link's row
      module _ (none : NoneFailsBy basis.schema kind.Clash) (one : Symbol) (fact : IsTrue (is_null_in basis LinkFocus t col one)) where
        pub null_parts : IsTrue (has_row (pattern_of basis LinkFocus) t) × IsTrue (is_required basis.schema.store t col)
            × IsTrue (stands_for_null basis LinkFocus (listed_in (pattern_of basis LinkFocus) t col) one)
        null_parts = let last = and_parts _ _ fact in let first = and_parts _ _ last.0 in (first.0, first.1, last.1)

        pub no_value : (value : Value) → DemandsCell basis.schema state t link_key col value → value ≡ Null
        no_value value demand = by (listed_of col value demand)
          where
            by : ListsValue (pattern_of basis LinkFocus) link_values t col value → value ≡ Null
            by (other, (cell, here, listed), is_value) =
                let Stands : List Symbol → Type 0 = λ list. IsTrue (stands_for_null basis LinkFocus list one) in
                let stands_null = stands_listed basis LinkFocus cell one other listed (subst Stands (cell_is basis LinkFocus t col cell here) null_parts.2) in
                let lists_one : Lists (pattern_of basis LinkFocus) t col one = (cell, here, stands_null.0) in
                let null : value_under link_values one ≡ Null = value_is col one lists_one Null (null_is_one col cell here one stands_null.0 stands_null.1) in
                beside_null none value (subst (DemandsCell basis.schema state t link_key col) null (demanded col one lists_one)) demand

        abbrev pub row_leaves : LeavesNull basis.schema state (place_at table.name link_key column.name)
        row_leaves = record {
          t = t;
          table = table;
          col = col;
          column = column;
          key = link_key;
          has_column = has_column;
          not_nullable = told_needed basis.schema t col table column has_column null_parts.1;
          demands_row = (link_rows basis is link_row).1 ((Decides-row (pattern_of basis LinkFocus) t).0 null_parts.0);
          no_value = no_value;
          place_is = refl;
        }

    -- where no legal state clashes, no cell of the pattern does
    module _ (none : NoneFailsBy basis.schema kind.Clash) (row : PatternRow) (is_row : Contains (pattern_of basis LinkFocus).rows row) where
      cell_clear : (cell : List Symbol) → Contains row.cells cell → IsTrue (has_clash basis.schema.model [] cell) → ⊥
      cell_clear cell among told =
          let col : ColId = record { index = among.0 } in
          let two : HasTwoSymbols basis.schema.model [] cell = (clash_decided basis.schema.model [] cell).0 told in
          let here : HasCell (pattern_of basis LinkFocus) t col cell = record {
            row = row;
            is_row = is_row;
            of_table = row_joined basis is t fragment assoc joined row is_row;
            is_cell = place_of_member row.cells cell among;
          } in
          let at = made_cell basis.schema.store (writings_of basis LinkFocus) t col cell here in
          none (place_at at.table.name link_key at.column.name) state state (record {
            legal = legal;
            fails = row_clashes col at.table at.column (record { is_table = at.is_table; is_column = at.is_column }) two.one two.two (record {
              lists_one = (cell, here, two.lists_one);
              lists_two = (cell, here, two.lists_two);
              clash = record { different = two.different; not_alike = λ are. two.not_alike are.0 are.1 are.2 };
            });
          })

      pub row_clear : IsClearRow basis LinkFocus row
      row_clear = record {
        is_row = is_row;
        clear = all_from_members (λ cell. has_clash basis.schema.model [] cell ≡ false) row.cells
            (λ cell among. fails_by (has_clash basis.schema.model [] cell) (cell_clear cell among));
      }
