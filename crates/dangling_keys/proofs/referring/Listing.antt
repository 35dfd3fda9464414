-- Which symbols the cells list from which a foreign key points: parts of keys, and properties that are no dependent ones.
use Rattle.std.proofs.Common.{◌≡◌, ◌⊎◌, ⊎_elim, inl, inr, ℕ, ◌<◌, ◌≤◌, ◌==◌, List, [], ◌∷◌, length, Contains, Bool, true, refl, sym, ap, subst, ◌∙◌, arith}
use Rattle.std.proofs.lemmas.List.Elements.{All-contains}
use Rattle.emc_base.proofs.Joined.{in_flat_map}
use Rattle.emc_base.proofs.Lists.{item_at}
use Rattle.emc_base.proofs.Mapped.{contains_at}
use Rattle.emc_base.proofs.Members.{contains_head}
use Rattle.round_trip.specs.Words.{AssocId, Assoc, ColId, Column, ForeignKey, Null, PropId, SetId, Table, TableId, At, key_columns, key_props, props_of}
use Rattle.round_trip.specs.soundness.Stores.{HasForeignIds, IsColId, IsSoundForeignKey, IsSoundTable}
use Rattle.round_trip.specs.soundness.mappings.Joined.{IsDependent}
use Rattle.round_trip.proofs.Lookups.{key_columns_at}
use Rattle.schema_laws.specs.short_values.Fresh.{dependent_value, focus_key, partner_key}
use Rattle.schema_laws.specs.short_values.Places.{is_among, is_dependent, place_in}
use Rattle.schema_laws.proofs.short_values.Places.{Decides-among, Decides-dependent}
use Rattle.schema_laws.proofs.sound_demand.Fitting.{columns_are}
use Rattle.schema_laws.proofs.state_demand.writings.Decisions.{so_or_not}
use Rattle.population.proofs.supporting.Least.{no_more}
use Rattle.regions.specs.Basis.{Basis}
use Rattle.regions.specs.Patterns.{cell_symbols, pattern_of, writings_of}
use Rattle.regions.specs.Regions.{regions_of}
use Rattle.regions.specs.Settled.{Possible, free, known, multi, possible, settle, settled_by, single}
use Rattle.regions.specs.declared.pattern.Focus.{Focus}
use Rattle.regions.specs.declared.pattern.Focus.TheVariants as focus
use Rattle.regions.specs.declared.pattern.Symbol.{Symbol}
use Rattle.regions.specs.declared.pattern.Symbol.TheVariants as symbol
use Rattle.regions.specs.declared.region.Region.{Region}
use Rattle.regions.specs.region_laws.IsBasis.{IsBasis}
use Rattle.regions.specs.region_laws.pattern.Allowed.{end_at, told_of}
use Rattle.regions.specs.region_laws.pattern.Listed.{HasCell, Lists}
use Rattle.regions.proofs.region_laws.pattern.Laws.{listed_from}
use Rattle.regions.proofs.region_laws.pattern.symbols.Hosting.{assoc_here, end_prop, the_assoc}
use Rattle.regions.proofs.region_laws.pattern.symbols.Standing.{IsEndOf, end_of, link_no_prop, listed_prop}
use Rattle.region_states.specs.focus.Held.{HasRow}
use Rattle.conflict_laws.proofs.clash.Listed.{cell_is}
use Rattle.conflict_laws.proofs.null.Listed.{cell_there}
use Rattle.dangling_keys.specs.Flow.{IsFlow, IsLinkPart, IsOwnDependent, IsPartnerPart, end_part}
use Rattle.dangling_keys.specs.FlowStates.{AreOpen}
use Rattle.dangling_keys.specs.Showing.{cell_at, not_null_for, nullable_in}
use Rattle.dangling_keys.proofs.told.Matching.{Decides-col, as_many}
use Rattle.dangling_keys.proofs.told.Rows.{nullable_is}

module _ (basis : Basis) (is : IsBasis basis) where
  -- at most four columns point
  module _ (key : ForeignKey) (is_key : Contains basis.schema.store.keys key) where
    ids : HasForeignIds basis.schema.store key
    ids = All-contains (HasForeignIds basis.schema.store) basis.schema.store.keys key is.sound.store.ids.foreign is_key

    pub key_is_sound : IsSoundForeignKey basis.schema.store key
    key_is_sound = All-contains (IsSoundForeignKey basis.schema.store) basis.schema.store.keys key is.sound.store.keys is_key

    pub few_cols : length key.from_cols ≤ 4
    few_cols =
        let to = item_at basis.schema.store.tables key.to.index ids.to in
        let table : IsSoundTable to.0 = All-contains IsSoundTable basis.schema.store.tables to.0 is.sound.store.tables (contains_at basis.schema.store.tables key.to.index to.0 to.1) in
        let cols = key_columns basis.schema.store key.to in
        let whole = key_is_sound.columns.whole in
        let most = no_more (λ (one two : ColId). one.index == two.index) Decides-col key.to_cols cols whole.once (λ col has. All-contains (Contains cols) key.to_cols col whole.only has) in
        let Few : List ColId → Type 0 = λ list. length list ≤ 4 in
        let few : Few cols = subst Few (sym (key_columns_at basis.schema.store key.to to.0 to.1)) table.key.few in
        let count = as_many basis.schema.store key key_is_sound in
        omega (arith, most, few, count)

    pub the_table : (table : Table) × At basis.schema.store.tables key.from.index table
    the_table = item_at basis.schema.store.tables key.from.index ids.from

    module _ (of : Focus) (of_row : HasRow (pattern_of basis of) key.from) where
      abbrev can : Symbol → Possible
      can = possible basis.schema.model (told_of of)

      abbrev cell_of_col : ColId → List Symbol
      cell_of_col col = cell_symbols (writings_of basis of) key.from col

      has_cell : (col : ColId) → Contains key.from_cols col → HasCell (pattern_of basis of) key.from col (cell_of_col col)
      has_cell col has =
          let within : IsColId basis.schema.store key.from col = All-contains (IsColId basis.schema.store key.from) key.from_cols col ids.from_cols has in
          let inside = subst (λ (cols : List Column). col.index < length cols) (columns_are basis.schema.store key.from the_table.0 the_table.1) within in
          let column = item_at the_table.0.cols col.index inside in
          cell_there basis is of key.from col the_table.0 column.0 (record { is_table = the_table.1; is_column = column.1 }) of_row

      -- the symbol of a cell is listed there, and can have several values
      pub free_listed : (col : ColId) → Contains key.from_cols col → (one : Symbol) (nullable : Bool) → cell_at basis of key.from col ≡ free one nullable
          → Lists (pattern_of basis of) key.from col one × (can one ≡ multi nullable)
      free_listed col has one nullable told = by (cell_of_col col) (has_cell col has) (sym (ap (settle basis.schema.model (told_of of)) (cell_is basis of key.from col (cell_of_col col) (has_cell col has))) ∙ told)
        where
          by : (cell : List Symbol) → HasCell (pattern_of basis of) key.from col cell → settle basis.schema.model (told_of of) cell ≡ free one nullable
              → Lists (pattern_of basis of) key.from col one × (can one ≡ multi nullable)
          by [] there settled = absurd (let never : known Null ≡ free one nullable = settled in cc)
          by (first ∷ others) there settled = by_first (can first) refl settled
            where
              by_first : (possibly : Possible) → can first ≡ possibly → settled_by first possibly ≡ free one nullable → Lists (pattern_of basis of) key.from col one × (can one ≡ multi nullable)
              by_first (single value) is_it never = absurd (let nothing : known value ≡ free one nullable = never in cc)
              by_first (multi maybe) is_it same_cell =
                  let same_one : first ≡ one = (let it : free first maybe ≡ free one nullable = same_cell in cc) in
                  let same_null : maybe ≡ nullable = (let it : free first maybe ≡ free one nullable = same_cell in cc) in
                  ((first ∷ others, there, subst (Contains (first ∷ others)) same_one (contains_head first others)), subst (λ (it : Symbol). can it ≡ multi nullable) same_one (is_it ∙ ap multi same_null))

  -- what the symbol of a cell of an entity's row is: a part of a key, or a property that is none and no dependent one
  pub record IsPlainProp (region : Region) (one : Symbol) : Type 0 where
    pub p : PropId
    pub is_prop : one ≡ symbol.Prop p
    pub among : Contains (props_of basis.schema.model region.ty) p
    pub no_key : ¬ Contains (key_props basis.schema.model region.ty) p
    pub free_of : ¬ IsDependent basis.schema.model p

  module _ (s : SetId) (region : Region) (listed : Contains (regions_of basis s) region) (key : ForeignKey) (is_key : Contains basis.schema.store.keys key)
      (of_row : HasRow (pattern_of basis (focus.Entity region)) key.from) where
    abbrev The : Focus
    The = focus.Entity region

    pub shown_symbol : (col : ColId) → Contains key.from_cols col → (one : Symbol) (nullable : Bool) → cell_at basis The key.from col ≡ free one nullable
        → ((i : ℕ) × IsFlow basis The one i) ⊎ IsPlainProp region one
    shown_symbol col has one nullable told = let found = free_listed key is_key The of_row col has one nullable told in by one found.0 found.1
      where
        by : (it : Symbol) → Lists (pattern_of basis The) key.from col it → possible basis.schema.model (told_of The) it ≡ multi nullable → ((i : ℕ) × IsFlow basis The it i) ⊎ IsPlainProp region it
        by symbol.Null lists several = absurd (let never : single Null ≡ multi nullable = several in cc)
        by (symbol.Const value) lists several = absurd (let never : single value ≡ multi nullable = several in cc)
        by (symbol.Prop p) lists several =
            let among : Contains (props_of basis.schema.model region.ty) p = listed_prop basis is s region listed key.from col p (listed_from basis is The key.from col (symbol.Prop p) lists) in
            ⊎_elim
            (λ (part : Contains (key_props basis.schema.model region.ty) p). inl (focus_key (place_in p (key_props basis.schema.model region.ty)), inl (part, refl)))
            (λ (no_part : ¬ Contains (key_props basis.schema.model region.ty) p). ⊎_elim
            (λ (dependent : IsDependent basis.schema.model p). let own : IsOwnDependent basis region p = record { among = among; no_key = no_part; dependent = dependent } in
            inl (dependent_value (place_in p (props_of basis.schema.model region.ty)), inr (own, refl)))
            (λ (plain : ¬ IsDependent basis.schema.model p). inr (record { p = p; is_prop = refl; among = among; no_key = no_part; free_of = plain }))
            (so_or_not (is_dependent basis.schema.model p) (Decides-dependent basis.schema.model p)))
            (so_or_not (is_among p (key_props basis.schema.model region.ty)) (Decides-among (key_props basis.schema.model region.ty) p))
        by (symbol.End a first p) lists several =
            let from : IsEndOf basis The key.from col a first p = end_of basis The key.from col a first p (listed_from basis is The key.from col (symbol.End a first p) lists) in
            let assoc : Assoc = the_assoc basis is from.fragment from.mapped in
            let here : At basis.schema.model.assocs a.index assoc = subst (λ (b : AssocId). At basis.schema.model.assocs b.index assoc) from.of_assoc (assoc_here basis is from.fragment from.mapped) in
            let part : Contains (key_props basis.schema.model (end_at first assoc).ty) p = subst (Contains (key_props basis.schema.model (end_at first assoc).ty)) from.at_prop
            (end_prop basis is from.fragment from.mapped first from.pair from.paired) in
            let same_assoc : from.partner.0.assoc ≡ a = sym from.partner.3 ∙ from.of_assoc in
            let own : IsPartnerPart basis region a first p = record {
              host = from.partner.0;
              hosts = from.partner.1;
              of_assoc = same_assoc;
              linked = subst (Contains region.linked) same_assoc from.partner.2;
              at_far = from.partner.4;
              assoc = assoc;
              is_assoc = here;
              part = part;
            } in
            inl (partner_key a.index (place_in p (key_props basis.schema.model (end_at first assoc).ty)), (own, refl))

    -- of the properties that may not be null it is open whether they are
    pub are_open : AreOpen basis region (not_null_for basis The key)
    are_open p has =
        let found = in_flat_map (λ (col : ColId). nullable_in (cell_at basis The key.from col)) key.from_cols p has in
        let told = free_listed key is_key The of_row found.0 found.1 (symbol.Prop p) true (nullable_is (cell_at basis The key.from found.0) p found.2) in
        (listed_prop basis is s region listed key.from found.0 p (listed_from basis is The key.from found.0 (symbol.Prop p) told.0), told.1)

  -- an end that is listed in a link's pattern is a part of a key
  pub end_flow : (a : AssocId) (t : TableId) (col : ColId) (b : AssocId) (first : Bool) (p : PropId) → Lists (pattern_of basis (focus.Link a)) t col (symbol.End b first p)
      → (i : ℕ) × IsFlow basis (focus.Link a) (symbol.End b first p) i
  end_flow a t col b first p lists =
      let from : IsEndOf basis (focus.Link a) t col b first p = end_of basis (focus.Link a) t col b first p (listed_from basis is (focus.Link a) t col (symbol.End b first p) lists) in
      let assoc : Assoc = the_assoc basis is from.fragment from.mapped in
      let here : At basis.schema.model.assocs b.index assoc = subst (λ (c : AssocId). At basis.schema.model.assocs c.index assoc) from.of_assoc (assoc_here basis is from.fragment from.mapped) in
      let part : Contains (key_props basis.schema.model (end_at first assoc).ty) p = subst (Contains (key_props basis.schema.model (end_at first assoc).ty)) from.at_prop
      (end_prop basis is from.fragment from.mapped first from.pair from.paired) in
      let own : IsLinkPart basis a b first p = record { of_assoc = sym from.of_assoc ∙ from.partner; assoc = assoc; is_assoc = here; part = part } in
      (end_part first (place_in p (key_props basis.schema.model (end_at first assoc).ty)), (own, refl))

  -- the symbol of a cell of a link's row is a part of a key
  pub link_symbol : (a : AssocId) (key : ForeignKey) (is_key : Contains basis.schema.store.keys key) → HasRow (pattern_of basis (focus.Link a)) key.from → (col : ColId) → Contains key.from_cols col
      → (one : Symbol) (nullable : Bool) → cell_at basis (focus.Link a) key.from col ≡ free one nullable → (i : ℕ) × IsFlow basis (focus.Link a) one i
  link_symbol a key is_key of_row col has one nullable told = let found = free_listed key is_key (focus.Link a) of_row col has one nullable told in by one found.0 found.1
    where
      by : (it : Symbol) → Lists (pattern_of basis (focus.Link a)) key.from col it → possible basis.schema.model [] it ≡ multi nullable → (i : ℕ) × IsFlow basis (focus.Link a) it i
      by symbol.Null lists several = absurd (let never : single Null ≡ multi nullable = several in cc)
      by (symbol.Const value) lists several = absurd (let never : single value ≡ multi nullable = several in cc)
      by (symbol.Prop p) lists several = absurd (link_no_prop basis is a key.from col p (listed_from basis is (focus.Link a) key.from col (symbol.Prop p) lists))
      by (symbol.End b first p) lists several =
          end_flow a key.from col b first p lists

  -- no property is to be not null of a link
  pub link_none : (a : AssocId) (key : ForeignKey) (is_key : Contains basis.schema.store.keys key) → HasRow (pattern_of basis (focus.Link a)) key.from → (p : PropId)
      → Contains (not_null_for basis (focus.Link a) key) p → ⊥
  link_none a key is_key of_row p has =
      let found = in_flat_map (λ (col : ColId). nullable_in (cell_at basis (focus.Link a) key.from col)) key.from_cols p has in
      (link_symbol a key is_key of_row found.0 found.1 (symbol.Prop p) true (nullable_is (cell_at basis (focus.Link a) key.from found.0) p found.2)).1
