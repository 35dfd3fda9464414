-- Whether a fragment shows the row that a pattern's row describes is decided by the pattern.
use Rattle.std.proofs.Common.{◌≡◌, ◌≢◌, inl, inr, ◌&&◌, ◌<◌, ◌++◌, List, [], ◌∷◌, length, Bool, true, false, Decides, All, Contains, refl, sym, ap, subst, ◌∙◌}
use Rattle.std.specs.Prelude.{unwrap_or}
use Rattle.std.specs.List.{list_all}
use Rattle.std.proofs.lemmas.Bool.Decides.{Decides-and, Decides-like}
use Rattle.std.proofs.lemmas.List.Elements.{All-cons, All-contains, All-head, All-nil, All-tail}
use Rattle.emc_base.proofs.Lists.{item_at}
use Rattle.emc_base.proofs.Mapped.{contains_at}
use Rattle.round_trip.specs.Words.{TableId, ColId, Value, Null, Column, Fragment, LinkFragment, Pair, Cond, CondOn, Test, Row, At, MetByRow, Passes, Shows, ShowsLink, cell_of}
use Rattle.edm_types.specs.declared.mapping.CondOn.TheVariants as on
use Rattle.edm_types.specs.declared.mapping.Test.TheVariants.{IsNull, Equals}
use Rattle.round_trip.specs.soundness.mappings.Joined.{col}
use Rattle.round_trip.specs.soundness.Lookups.{columns_of}
use Rattle.round_trip.specs.soundness.mappings.Mappings.{HasPairIds, IsCondId}
use Rattle.round_trip.specs.soundness.Stores.{IsColId}
use Rattle.member_groups.specs.Tested.{HasCondition, IsImplied}
use Rattle.schema_laws.specs.state_demand.Selecting.{passes}
use Rattle.schema_laws.proofs.state_demand.lists.Lists.{head_stands, tail_stands}
use Rattle.schema_laws.proofs.state_demand.writings.Selecting.{Decides-passes}
use Rattle.schema_laws.proofs.sound_demand.Fitting.{columns_are, link_ids, sound_fragment}
use Rattle.regions.specs.region_laws.IsBasis.{IsBasis}
use Rattle.regions.specs.declared.pattern.Symbol.{Symbol}
use Rattle.regions.specs.declared.pattern.PatternRow.{PatternRow}
use Rattle.regions.specs.declared.pattern.Focus.{Focus}
use Rattle.regions.specs.Basis.{Basis}
use Rattle.regions.specs.Patterns.{Valuation, cell_symbols, value_under, writings_of}
use Rattle.regions.specs.Settled.{Settled, free, has_clash, known, multi, possible, settle}
use Rattle.regions.specs.Shown.{cell_in, met_by_row, settled_passes, shows_link_row, shows_row}
use Rattle.regions.specs.Symbols.{SymbolWriting}
use Rattle.regions.specs.region_laws.pattern.Allowed.{told_of, AllowedFocus}
use Rattle.regions.specs.region_laws.pattern.Described.{DescribedRow}
use Rattle.regions.proofs.region_laws.pattern.Cells.{RowOf, cell_apart, cell_at, listed_written, row_of}
use Rattle.regions.proofs.region_laws.pattern.rows.Decided.{IsUntold, not_null, untold}
use Rattle.regions.proofs.region_laws.pattern.symbols.Origins.{From, is_from}
use Rattle.regions.proofs.region_laws.pattern.values.Possible.{can_be}
use Rattle.regions.proofs.region_laws.pattern.Settled.{free_is, known_empty, known_is}

module _ {X : Type 0} (p : X → Bool) (P : X → Type 0) where
  -- a test of all items, where it decides each
  Decides-members : (xs : List X) → ((x : X) → Contains xs x → Decides (p x) (P x)) → Decides (list_all p xs) (All P xs)
  Decides-members [] each = (λ told. All-nil P, λ all. refl)
  Decides-members (x ∷ xs) each =
      Decides-like (p x && list_all p xs) (λ (parts : P x × All P xs). All-cons P x xs parts.0 parts.1) (λ all. (All-head P x xs all, All-tail P x xs all))
      (Decides-and (p x) (list_all p xs) (each x (head_stands x xs)) (Decides-members xs (λ y has. each y (tail_stands x xs y has))))

-- a free cell passes just what its value does, where this is none that the condition tells
free_passes : (basis : Basis) (is : IsBasis basis) (cond : Cond) (value : Value) (one : Symbol) (n : Bool) → IsUntold basis is cond value
    → (test : Test) → cond.test ≡ test → Decides (settled_passes test (free one n)) (Passes test value)
free_passes basis is cond value one n untold_value (IsNull true) same = (λ told. cc, λ null. absurd (untold_value.not_null null))
free_passes basis is cond value one n untold_value (IsNull false) same = (λ told. untold_value.not_null, λ other. refl)
free_passes basis is cond value one n untold_value (Equals constant) same = (λ told. cc, λ both. absurd (untold_value.not_equal constant same both.0))

module _ (basis : Basis) (is : IsBasis basis) (focus_told : AllowedFocus basis) (at : DescribedRow basis focus_told) where
  abbrev of : Focus
  of = focus_told.of

  abbrev valuation : Valuation
  valuation = focus_told.values

  abbrev pattern : PatternRow
  pattern = at.pattern

  abbrev row : Row
  row = at.row

  abbrev writings : List SymbolWriting
  writings = writings_of basis of

  abbrev told : RowOf basis.schema.store writings pattern
  told = row_of basis.schema.store writings pattern at.clear.is_row

  abbrev t : TableId
  t = told.t

  abbrev symbols : ColId → List Symbol
  symbols c = cell_symbols writings t c

  -- a column of the table
  module _ (c : ColId) (within : IsColId basis.schema.store t c) where
    at_column : At pattern.cells c.index (symbols c)
    at_column =
        let cols : columns_of basis.schema.store t ≡ told.table.cols = columns_are basis.schema.store t told.table told.is_table in
        let column = item_at told.table.cols c.index (subst (λ (list : List Column). c.index < length list) cols within) in
        let P : PatternRow → Type 0 = λ one. At one.cells c.index (symbols c) in
        subst P (sym told.is) (cell_at basis.schema.store writings t told.table c column.0 column.1)

    cell_is : cell_in pattern c ≡ symbols c
    cell_is = ap (λ found. unwrap_or found []) at_column

    no_clash : has_clash basis.schema.model (told_of of) (symbols c) ≡ false
    no_clash = All-contains (λ cell. has_clash basis.schema.model (told_of of) cell ≡ false) pattern.cells (symbols c) at.clear.clear
        (contains_at pattern.cells c.index (symbols c) at_column)

    from : (one : Symbol) → Contains (symbols c) one → From basis of t c one
    from one has = is_from basis of t c one (listed_written writings t c one has)

    holds : (one : Symbol) → Contains (symbols c) one → cell_of row c ≡ value_under valuation one
    holds one has = All-contains (λ symbol. cell_of row c ≡ value_under valuation symbol) (symbols c) one (at.is_row.listed c (symbols c) at_column) has

    known_value : (value : Value) → settle basis.schema.model (told_of of) (symbols c) ≡ known value → cell_of row c ≡ value
    known_value value settled = by (symbols c) refl
      where
        by : (cell : List Symbol) → symbols c ≡ cell → cell_of row c ≡ value
        by [] none =
            let S : List Symbol → Type 0 = λ list. settle basis.schema.model (told_of of) list ≡ known value in
            let A : List Symbol → Type 0 = λ list. At pattern.cells c.index list in
            at.is_row.empty c (subst A none at_column) ∙ sym (known_empty basis.schema.model (told_of of) value (subst S none settled))
        by (first ∷ rest) some =
            let has : Contains (symbols c) first = subst (λ list. Contains list first) (sym some) (head_stands first rest) in
            holds first has
            ∙ known_is basis.schema.model (told_of of) (symbols c) no_clash valuation
            (λ one there. can_be basis is of focus_told.is_focus valuation focus_told.allowed t c one (from one there)) value settled first has

    -- a free cell's one symbol
    free_symbol : (one : Symbol) (n : Bool) → settle basis.schema.model (told_of of) (symbols c) ≡ free one n
        → Contains (symbols c) one × (possible basis.schema.model (told_of of) one ≡ multi n)
    free_symbol one n settled =
        let found = free_is basis.schema.model (told_of of) (symbols c) (cell_apart writings t c) no_clash one n settled in
        (subst (λ list. Contains list one) (sym found.0) (head_stands one []), found.1)

    -- a condition on the column
    asked_met : (cond : Cond) → HasCondition basis.schema t cond → cond.on ≡ on.Col c → (test : Test) → cond.test ≡ test
        → Decides (settled_passes test (settle basis.schema.model (told_of of) (cell_in pattern c))) (Passes test (cell_of row c))
    asked_met cond asked on_col test is_test =
        let S : List Symbol → Type 0 = λ list. Decides (settled_passes test (settle basis.schema.model (told_of of) list)) (Passes test (cell_of row c)) in
        subst S (sym cell_is) (by (settle basis.schema.model (told_of of) (symbols c)) refl)
      where
        by : (found : Settled) → settle basis.schema.model (told_of of) (symbols c) ≡ found → Decides (settled_passes test found) (Passes test (cell_of row c))
        by (known value) settled = let P : Value → Type 0 = λ v. Decides (passes test value) (Passes test v) in
            subst P (sym (known_value value settled)) (Decides-passes test value)
        by (free one n) settled =
            let found = free_symbol one n settled in
            let P : Value → Type 0 = λ v. Decides (settled_passes test (free one n)) (Passes test v) in
            subst P (sym (holds one found.0)) (free_passes basis is cond (value_under valuation one) one n
            (untold basis is of focus_told.is_focus valuation focus_told.allowed t c one n found.1 (from one found.0) cond asked on_col) test is_test)

    -- what a link fragment implies
    implied_met : IsImplied basis.schema (col t c)
        → Decides (settled_passes (IsNull false) (settle basis.schema.model (told_of of) (cell_in pattern c))) (cell_of row c ≢ Null)
    implied_met implied =
        let S : List Symbol → Type 0 = λ list. Decides (settled_passes (IsNull false) (settle basis.schema.model (told_of of) list)) (cell_of row c ≢ Null) in
        subst S (sym cell_is) (by (settle basis.schema.model (told_of of) (symbols c)) refl)
      where
        by : (found : Settled) → settle basis.schema.model (told_of of) (symbols c) ≡ found → Decides (settled_passes (IsNull false) found) (cell_of row c ≢ Null)
        by (known value) settled = let P : Value → Type 0 = λ v. Decides (passes (IsNull false) value) (v ≢ Null) in
            subst P (sym (known_value value settled)) (Decides-passes (IsNull false) value)
        by (free one n) settled =
            let found = free_symbol one n settled in
            (λ yes_. λ null. not_null basis is of focus_told.is_focus valuation focus_told.allowed t c one n found.1 (from one found.0) implied (sym (holds one found.0) ∙ null), λ other. refl)

  -- a condition of a fragment to the table
  cond_met : (cond : Cond) → HasCondition basis.schema t cond → IsCondId basis.schema t cond.on
      → Decides (met_by_row basis.schema.model (told_of of) pattern cond.on cond.test) (MetByRow row cond.on cond.test)
  cond_met cond asked within = by cond.on refl within
    where
      by : (what : CondOn) → cond.on ≡ what → IsCondId basis.schema t what
          → Decides (met_by_row basis.schema.model (told_of of) pattern what cond.test) (MetByRow row what cond.test)
      by (on.Prop p) is_on inside = (λ yes_. tt, λ met. refl)
      by (on.Col c) is_on inside = asked_met c inside cond asked is_on cond.test refl

  table_is : pattern.table ≡ t
  table_is = ap (λ (one : PatternRow). one.table) told.is

  pub shown : (fragment : Fragment) → Contains basis.schema.mapping.fragments fragment → fragment.table ≡ at.pattern.table
      → Decides (shows_row basis.schema.model (told_of focus_told.of) fragment at.pattern) (Shows fragment at.row)
  shown fragment mapped to =
      let to_t : fragment.table ≡ t = to ∙ table_is in
      Decides-members (λ (cond : Cond). met_by_row basis.schema.model (told_of of) pattern cond.on cond.test) (λ (cond : Cond). MetByRow row cond.on cond.test) fragment.conds
      (λ cond among.
      let I : TableId → Type 0 = λ u. IsCondId basis.schema u cond.on in
      let ids = All-contains (λ (one : Cond). IsCondId basis.schema fragment.table one.on) fragment.conds cond
      (sound_fragment basis.schema is.sound fragment mapped).ids.conds among in
      cond_met cond (inl (fragment, mapped, to_t, among)) (subst I to_t ids))

  pub link_shown : (fragment : LinkFragment) → Contains basis.schema.mapping.links fragment → fragment.table ≡ at.pattern.table
      → Decides (shows_link_row basis.schema.model (told_of focus_told.of) fragment at.pattern) (ShowsLink fragment at.row)
  link_shown fragment mapped to =
      let to_t : fragment.table ≡ t = to ∙ table_is in
      let both : List Pair = fragment.first ++ fragment.second in
      let meets : Bool = list_all (λ (cond : Cond). met_by_row basis.schema.model (told_of of) pattern cond.on cond.test) fragment.conds in
      let keys : Bool = list_all (λ (pair : Pair). settled_passes (IsNull false) (settle basis.schema.model (told_of of) (cell_in pattern pair.col))) both in
      Decides-like (meets && keys)
      (λ (parts : All (λ (cond : Cond). MetByRow row cond.on cond.test) fragment.conds × All (λ (pair : Pair). cell_of row pair.col ≢ Null) both).
      record { meets = parts.0; keys = parts.1 })
      (λ shows. (shows.meets, shows.keys))
      (Decides-and meets keys
      (Decides-members (λ (cond : Cond). met_by_row basis.schema.model (told_of of) pattern cond.on cond.test) (λ (cond : Cond). MetByRow row cond.on cond.test) fragment.conds
      (λ cond among.
      let I : TableId → Type 0 = λ u. IsCondId basis.schema u cond.on in
      let ids = All-contains (λ (one : Cond). IsCondId basis.schema fragment.table one.on) fragment.conds cond (link_ids basis.schema is.sound fragment mapped).conds among in
      cond_met cond (inr (fragment, mapped, to_t, among)) (subst I to_t ids)))
      (Decides-members (λ (pair : Pair). settled_passes (IsNull false) (settle basis.schema.model (told_of of) (cell_in pattern pair.col)))
      (λ (pair : Pair). cell_of row pair.col ≢ Null) both
      (λ pair among.
      let I : TableId → Type 0 = λ u. IsColId basis.schema.store u pair.col in
      let ids : HasPairIds basis.schema fragment.table pair = All-contains (HasPairIds basis.schema fragment.table) both pair
      (link_ids basis.schema is.sound fragment mapped).pairs among in
      implied_met pair.col (subst I to_t ids.1) (fragment, pair, mapped, among, ap (λ u. col u pair.col) to_t))))
