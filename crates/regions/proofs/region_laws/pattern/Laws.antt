-- What is so of the cells of patterns, by what they list.
use Rattle.std.proofs.Common.{◌≡◌, ◌≢◌, ⊎_elim, inr, List, [], ◌∷◌, option_map, AllPairs, All, Contains, Bool, false, Option, Some, None, IsTrue, refl, sym, ap, subst, ◌∙◌}
use Rattle.std.specs.Prelude.{unwrap_or}
use Rattle.std.specs.Option.{option_map_or}
use Rattle.std.proofs.lemmas.Option.{slice_get-map}
use Rattle.std.proofs.lemmas.List.Elements.{All-contains}
use Rattle.emc_base.proofs.Lists.{all_from_members, at_once}
use Rattle.emc_base.proofs.Mapped.{contains_at}
use Rattle.round_trip.specs.Words.{TableId, ColId, AssocId, PropId, LinkFragment, Pair, Column, Prop, Value, Null, At, key_columns, key_props, cell_of}
use Rattle.round_trip.specs.soundness.mappings.Joined.{IsNoKey, col, prop}
use Rattle.condition_logic.specs.declared.atoms.Atom.{Atom}
use Rattle.member_groups.specs.Tested.{IsTested}
use Rattle.member_groups.proofs.Numbering.{free_member}
use Rattle.schema_laws.proofs.state_demand.lists.Lists.{head_stands, none_in_nil}
use Rattle.schema_laws.proofs.sound_demand.Fitting.{columns_are}
use Rattle.regions.specs.region_laws.IsBasis.{IsBasis}
use Rattle.regions.specs.declared.pattern.Symbol.{Symbol}
use Rattle.regions.specs.declared.pattern.Symbol.TheVariants as symbol
use Rattle.regions.specs.declared.pattern.PatternRow.{PatternRow}
use Rattle.regions.specs.declared.pattern.Focus.{Focus}
use Rattle.regions.specs.declared.pattern.Focus.TheVariants as focus
use Rattle.regions.specs.Atoms.{atom_at}
use Rattle.regions.specs.Basis.{Basis}
use Rattle.regions.specs.Patterns.{pattern_of, value_under, writings_of}
use Rattle.regions.specs.Settled.{Possible, free as free_cell, has_clash, is_nullable, known, multi, of_atom, possible, settle, single}
use Rattle.regions.specs.Symbols.{SymbolWriting}
use Rattle.regions.specs.region_laws.pattern.Allowed.{CanBe, IsFocus, told_of, AllowedFocus}
use Rattle.regions.specs.region_laws.pattern.Listed.{HasCell, IsTelling, Lists, WhereListed, PatternCell}
use Rattle.schema_laws.specs.sound_types.KeyParts.{IsPartOfKey}
use Rattle.regions.specs.region_laws.pattern.Described.{IsRowFor, row_for, value_in, IsClearRow}
use Rattle.regions.proofs.region_laws.pattern.Cells.{cell_apart, cell_of as made_cell, listed_written}
use Rattle.regions.proofs.region_laws.pattern.types.Groups.{asked_by, asked_tested, implied_tested, is_tested, joined_tested, told_tested, written_once}
use Rattle.regions.proofs.region_laws.pattern.symbols.Hosting.{one_link, side_among, side_once}
use Rattle.regions.proofs.region_laws.pattern.symbols.Origins.{From, by_cond, by_end, by_host, by_pair, is_from, side}
use Rattle.regions.proofs.region_laws.pattern.values.Possible.{can_be}
use Rattle.regions.proofs.region_laws.pattern.types.Regions.{atom_found, atom_tested}
use Rattle.regions.proofs.region_laws.pattern.Settled.{free_is, known_empty, known_is, one_value}
use Rattle.regions.proofs.region_laws.pattern.symbols.Standing.{StandsFree, StandsInKey, Stands, end_of, joined_by, prop_stands}

-- a part of a key is no property that is none
part_or_free : (basis : Basis) (p : PropId) → IsPartOfKey basis.schema.model p → IsNoKey basis.schema (prop p) → ⊥
part_or_free basis p part free =
    let P : Prop → Type 0 = λ declared. Contains (key_props basis.schema.model declared.owner) p in
    free.2 (subst P (at_once basis.schema.model.props p.index part.0 free.0 part.1 free.1) part.2)

module _ (basis : Basis) (is : IsBasis basis) where
  -- what is listed comes from somewhere
  pub listed_from : (of : Focus) (t : TableId) (c : ColId) (one : Symbol) → Lists (pattern_of basis of) t c one → From basis of t c one
  listed_from of t c one (cell, has, listed) =
      let writings : List SymbolWriting = writings_of basis of in
      let at = made_cell basis.schema.store writings t c cell has in
      is_from basis of t c one (listed_written writings t c one (subst (λ list. Contains list one) at.is listed))

  pub symbol_possible : (told : AllowedFocus basis) (t : TableId) (c : ColId) (one : Symbol) → Lists (pattern_of basis told.of) t c one
      → CanBe (possible basis.schema.model (told_of told.of) one) (value_under told.values one)
  symbol_possible told t c one lists = can_be basis is told.of told.is_focus told.values told.allowed t c one (listed_from told.of t c one lists)

  module _ (p : PropId) (here : WhereListed basis (symbol.Prop p)) (is_focus : IsFocus basis here.of) where
    stands : Stands basis here.t here.col p
    stands = prop_stands basis is here.of is_focus here.t here.col p (listed_from here.of here.t here.col (symbol.Prop p) here.lists)

    stands_free : IsNoKey basis.schema (prop p) → StandsFree basis here.t here.col p
    stands_free free = ⊎_elim
        (λ (key : StandsInKey basis here.t here.col p). absurd (part_or_free basis p key.part free))
        (λ (stands_so : StandsFree basis here.t here.col p). stands_so)
        stands

    -- a part of a key stands in the primary key
    pub part_in_key : IsPartOfKey basis.schema.model p → Contains (key_columns basis.schema.store here.t) here.col
    part_in_key part = ⊎_elim
        (λ (key : StandsInKey basis here.t here.col p). key.key_col)
        (λ (free : StandsFree basis here.t here.col p). absurd (part_or_free basis p part free.free_prop))
        stands

    -- a property that is no part of a key is in one group with its columns
    pub same_group : IsNoKey basis.schema (prop p) → basis.group (prop p) ≡ basis.group (col here.t here.col)
    same_group free =
        let stands_so = stands_free free in
        (is.groups (prop p) (col here.t here.col) (free_member basis.schema (prop p) free) (free_member basis.schema (col here.t here.col) stands_so.free_col)).1
        (inr (joined_by basis here.t here.col p stands_so))

  -- and where it isn't tested, it stands in one column
  pub untested_once : (p : PropId) (here there : WhereListed basis (symbol.Prop p)) → IsFocus basis here.of → IsFocus basis there.of → IsNoKey basis.schema (prop p)
      → ¬ IsTrue (basis.tested (prop p)) → (here.t ≡ there.t) × (here.col ≡ there.col)
  untested_once p here there is_focus is_other free untested =
      written_once basis is p free untested here.t there.t here.col there.col (stands_free p here is_focus free).written (stands_free p there is_other free).written

  -- an end stands in one column
  pub end_once : (a : AssocId) (first : Bool) (p : PropId) (here there : WhereListed basis (symbol.End a first p)) → (here.t ≡ there.t) × (here.col ≡ there.col)
  end_once a first p here there =
      let one = end_of basis here.of here.t here.col a first p (listed_from here.of here.t here.col (symbol.End a first p) here.lists) in
      let two = end_of basis there.of there.t there.col a first p (listed_from there.of there.t there.col (symbol.End a first p) there.lists) in
      let fragments : one.fragment ≡ two.fragment = one_link basis is one.fragment two.fragment one.mapped two.mapped (one.of_assoc ∙ sym two.of_assoc) in
      let S : LinkFragment → Type 0 = λ fragment. Contains (side first fragment) one.pair in
      let pairs : one.pair ≡ two.pair = side_once basis is two.fragment two.mapped first one.pair two.pair
      (subst S fragments one.paired) two.paired (one.at_prop ∙ sym two.at_prop) in (
        sym one.to_table ∙ ap (λ (fragment : LinkFragment). fragment.table) fragments ∙ two.to_table,
        sym one.at_col ∙ ap (λ (pair : Pair). pair.col) pairs ∙ two.at_col,
      )

  -- a property with one value is tested
  single_tested : (of : Focus) → IsFocus basis of → (p : PropId) (value : Value) → possible basis.schema.model (told_of of) (symbol.Prop p) ≡ single value
      → IsTrue (basis.tested (prop p))
  single_tested (focus.Entity region) (s, has) p value one = by (atom_at region.atoms p) refl one
    where
      by : (found : Option Atom) → atom_at region.atoms p ≡ found → option_map_or of_atom found (multi (is_nullable basis.schema.model p)) ≡ single value
          → IsTrue (basis.tested (prop p))
      by None none is_one = cc
      by (Some told) here is_one =
          let found = atom_found region.atoms p told here in
          let P : PropId → Type 0 = λ q. IsTrue (basis.tested (prop q)) in
          subst P found.2 (atom_tested basis is s region has found.0 found.1).1
  single_tested (focus.Link a) here p value one = cc

  -- a column outside the primary key that is listed in a row
  free_column : (of : Focus) (t : TableId) (c : ColId) (cell : List Symbol) → HasCell (pattern_of basis of) t c cell → ¬ Contains (key_columns basis.schema.store t) c
      → IsNoKey basis.schema (col t c)
  free_column of t c cell has no_key =
      let at = made_cell basis.schema.store (writings_of basis of) t c cell has in
      let H : List Column → Type 0 = λ cols. At cols c.index at.column in
      (at.column, subst H (sym (columns_are basis.schema.store t at.table at.is_table)) at.is_column, no_key)

  module _ (of : Focus) (here : IsFocus basis of) (t : TableId) (c : ColId) (free : IsNoKey basis.schema (col t c)) where
    prop_tested : (p : PropId) → From basis of t c (symbol.Prop p) → IsTelling basis.schema.model (told_of of) (symbol.Prop p) → IsTested basis.schema (col t c)
    prop_tested p from (value, one) = ⊎_elim
        (λ (key : StandsInKey basis t c p). absurd (free.2 key.key_col))
        (λ (stands_so : StandsFree basis t c p).
        joined_tested basis is (prop p) (col t c) (joined_by basis t c p stands_so)
        (is_tested basis is (prop p) (free_member basis.schema (prop p) stands_so.free_prop) (single_tested of here p value one)))
        (prop_stands basis is of here t c p from)

    from_tested : (one : Symbol) → From basis of t c one → IsTelling basis.schema.model (told_of of) one → IsTested basis.schema (col t c)
    from_tested one (by_pair fragment pair mapped to among at_col same chosen) telling =
        let F : Symbol → Type 0 = From basis of t c in
        let T : Symbol → Type 0 = IsTelling basis.schema.model (told_of of) in
        prop_tested pair.prop (subst F same (by_pair fragment pair mapped to among at_col same chosen)) (subst T same telling)
    from_tested one (by_host fragment first pair mapped to among at_col same hosting) telling =
        let F : Symbol → Type 0 = From basis of t c in
        let T : Symbol → Type 0 = IsTelling basis.schema.model (told_of of) in
        prop_tested pair.prop (subst F same (by_host fragment first pair mapped to among at_col same hosting)) (subst T same telling)
    from_tested one (by_end fragment first pair mapped to among at_col same partner) telling =
        implied_tested basis is t c free (fragment, pair, mapped, side_among first fragment pair among, λ k. col (to k) (at_col k))
    from_tested one (by_cond cond asked on_col gives) telling = asked_tested basis is t c free (asked_by basis is t c cond asked on_col)

  -- a cell outside the primary key that tells something is of a tested group
  pub telling_tested : (one : Symbol) (here : WhereListed basis one) → IsFocus basis here.of → ¬ Contains (key_columns basis.schema.store here.t) here.col
      → IsTelling basis.schema.model (told_of here.of) one → IsTrue (basis.tested (col here.t here.col))
  telling_tested one here is_focus no_key telling =
      let free = free_column here.of here.t here.col here.lists.0 here.lists.1 no_key in
      told_tested basis is (col here.t here.col) free
      (from_tested here.of is_focus here.t here.col free one (listed_from here.of here.t here.col one here.lists) telling)

  -- cells without a clash
  module _ (told : AllowedFocus basis) (at : PatternCell basis told.of) (none : has_clash basis.schema.model (told_of told.of) at.cell ≡ false) where
    each : (one : Symbol) → Contains at.cell one → CanBe (possible basis.schema.model (told_of told.of) one) (value_under told.values one)
    each one listed = symbol_possible told at.t at.col one (at.cell, at.has, listed)

    pub cell_one : (one two : Symbol) → Contains at.cell one → Contains at.cell two → value_under told.values one ≡ value_under told.values two
    cell_one = one_value basis.schema.model (told_of told.of) at.cell none told.values each

    pub cell_known : (value : Value) → settle basis.schema.model (told_of told.of) at.cell ≡ known value
        → All (λ symbol. value_under told.values symbol ≡ value) at.cell × (at.cell ≡ [] → value ≡ Null)
    cell_known value settled = (
      all_from_members (λ symbol. value_under told.values symbol ≡ value) at.cell (known_is basis.schema.model (told_of told.of) at.cell none told.values each value settled),
      λ empty. (let S : List Symbol → Type 0 = λ list. settle basis.schema.model (told_of told.of) list ≡ known value in
          known_empty basis.schema.model (told_of told.of) value (subst S empty settled)),
    )

    pub cell_free : (one : Symbol) (n : Bool) → settle basis.schema.model (told_of told.of) at.cell ≡ free_cell one n
        → (at.cell ≡ one ∷ []) × (value_under told.values one ≡ Null → IsTrue n)
    cell_free one n settled =
        let made = made_cell basis.schema.store (writings_of basis told.of) at.t at.col at.cell at.has in
        let A : List Symbol → Type 0 = AllPairs (λ x y. x ≢ y) in
        let found = free_is basis.schema.model (told_of told.of) at.cell (subst A (sym made.is) (cell_apart (writings_of basis told.of) at.t at.col)) none one n settled in
        let listed : Contains at.cell one = subst (λ list. Contains list one) (sym found.0) (head_stands one []) in
        let P : Possible → Type 0 = λ can. CanBe can (value_under told.values one) in
        (found.0, subst P found.1 (each one listed))

  -- a row of cells without clashes describes one
  pub described : (told : AllowedFocus basis) (pattern : PatternRow) → IsClearRow basis told.of pattern → IsRowFor told.values pattern (row_for told.values pattern)
  described told pattern clear = record {
    listed = λ c cell at. all_from_members (λ symbol. cell_of (row_for told.values pattern) c ≡ value_under told.values symbol) cell (λ one has.
        let none : has_clash basis.schema.model (told_of told.of) cell ≡ false =
        All-contains (λ list. has_clash basis.schema.model (told_of told.of) list ≡ false) pattern.cells cell clear.clear (contains_at pattern.cells c.index cell at) in
        value_at c cell at ∙ value_is c cell at none one has);
    empty = λ c at. value_at c [] at;
  }
    where
      value_at : (c : ColId) (cell : List Symbol) → At pattern.cells c.index cell → cell_of (row_for told.values pattern) c ≡ value_in told.values cell
      value_at c cell at = ap (λ found. unwrap_or found Null) (slice_get-map (value_in told.values) pattern.cells c.index ∙ ap (option_map (value_in told.values)) at)

      value_is : (c : ColId) (cell : List Symbol) → At pattern.cells c.index cell → has_clash basis.schema.model (told_of told.of) cell ≡ false
          → (one : Symbol) → Contains cell one → value_in told.values cell ≡ value_under told.values one
      value_is c [] at none one has = absurd (none_in_nil one has)
      value_is c (first ∷ rest) at none one has =
          cell_one told (record {
            t = pattern.table;
            col = c;
            cell = first ∷ rest;
            has = record { row = pattern; is_row = clear.is_row; of_table = refl; is_cell = at };
          }) none first one (head_stands first rest) has
