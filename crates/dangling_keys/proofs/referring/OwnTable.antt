-- A foreign key of a joined association's table that points to the same table: a link's row doesn't refer to itself.
use Rattle.std.proofs.Common.{◌≡◌, inl, inr, ℕ, ◌<◌, ◌≤◌, List, [], ◌∷◌, map, length, Contains, false, Some, None, ◌==◌, refl, sym, ap, subst, ◌∙◌, arith}
use Rattle.std.proofs.lemmas.Bool.{cond_both}
use Rattle.std.proofs.lemmas.List.Elements.{All-contains}
use Rattle.std.proofs.lemmas.Option.{same_Some}
use Rattle.emc_base.proofs.Lists.{item_at}
use Rattle.emc_base.proofs.Members.{contains_head, contains_tail}
use Rattle.round_trip.specs.Words.{Assoc, ColId, Column, ForeignKey, IsLegal, Kind, Link, LinkFragment, Row, State, Table, Value, At, cell_of, cells_of, key_columns, links_in, row_key, rows_in}
use Rattle.round_trip.specs.soundness.Stores.{HasForeignIds, IsColId, IsSoundForeignKey}
use Rattle.schema_laws.specs.short_values.Fresh.{fresh}
use Rattle.schema_laws.specs.short_values.Numbers.{number}
use Rattle.schema_laws.specs.state_demand.Owners.{IsJoinedTo}
use Rattle.schema_laws.proofs.short_values.Short.{fresh_apart, number_same}
use Rattle.schema_laws.proofs.sound_demand.Fitting.{columns_are}
use Rattle.schema_laws.proofs.state_demand.tables.ReadBack.{cells_demanded}
use Rattle.cells.specs.Limits.{IsWithinLimits}
use Rattle.regions.specs.Basis.{Basis}
use Rattle.regions.specs.Patterns.{Valuation, by_link, cell_symbols, pattern_of, value_under, writings_of}
use Rattle.regions.specs.Settled.{Settled, free, known, settle}
use Rattle.regions.specs.declared.pattern.Focus.{Focus}
use Rattle.regions.specs.declared.pattern.Focus.TheVariants as focus
use Rattle.regions.specs.declared.pattern.Symbol.{Symbol}
use Rattle.regions.specs.declared.pattern.Symbol.TheVariants as symbol
use Rattle.regions.specs.region_laws.Held.{IsAtLinkRow, LinkRow}
use Rattle.regions.specs.region_laws.IsBasis.{IsBasis}
use Rattle.regions.specs.region_laws.pattern.Allowed.{AllowedFocus}
use Rattle.regions.specs.region_laws.pattern.Listed.{HasCell, IsEndCell, Lists}
use Rattle.regions.proofs.region_laws.pattern.Keys.{end_cell}
use Rattle.regions.proofs.region_laws.pattern.Laws.{end_once}
use Rattle.region_states.specs.focus.Held.{HasRow}
use Rattle.region_states.proofs.focus.Demanded.{link_cells}
use Rattle.conflict_laws.proofs.clash.Listed.{cell_is}
use Rattle.conflict_laws.proofs.null.Listed.{cell_there}
use Rattle.failure_laws.proofs.links.LinkRows.{told_link}
use Rattle.dangling_keys.specs.Flow.{IsFlow}
use Rattle.dangling_keys.specs.Showing.{cell_at, col_beside}
use Rattle.dangling_keys.specs.Outer.{IsPartOrOuter}
use Rattle.dangling_keys.proofs.left_out.Flow.{flow_once, flow_small}
use Rattle.dangling_keys.proofs.referring.Listing.{end_flow, free_listed, key_is_sound}
use Rattle.dangling_keys.proofs.told.Matching.{all_alike, as_many}
use Rattle.dangling_keys.proofs.told.Rows.{HoldsSettled, held_at}
use Rattle.dangling_keys.proofs.referring.Target.{IsShown, cell_alike, holds, target_key, to_table}

-- what stands beside is in the list
from_among : (cols others : List ColId) (col from : ColId) → col_beside col cols others ≡ Some from → Contains others from
from_among [] others col from beside = absurd (let never : None ≡ Some from = beside in cc)
from_among (one ∷ cols) [] col from beside = absurd (let never : None ≡ Some from = beside in cc)
from_among (one ∷ cols) (other ∷ others) col from beside =
    cond_both (one.index == col.index) (Some other) (col_beside col cols others) (λ found. found ≡ Some from → Contains (other ∷ others) from)
    (λ told same_one. subst (Contains (other ∷ others)) (same_Some other from same_one) (contains_head other others))
    (λ told later. contains_tail other others from (from_among cols others col from later)) beside

-- lists of columns with the same numbers
same_cols : (cols others : List ColId) → map (λ col. number col.index) cols ≡ map (λ col. number col.index) others → cols ≡ others
same_cols [] [] same_numbers = refl
same_cols [] (other ∷ others) same_numbers = absurd (let never : [] ≡ number other.index ∷ map (λ (col : ColId). number col.index) others = same_numbers in cc)
same_cols (col ∷ cols) [] same_numbers = absurd (let never : number col.index ∷ map (λ (one : ColId). number one.index) cols ≡ [] = same_numbers in cc)
same_cols (col ∷ cols) (other ∷ others) same_numbers =
    let heads : number col.index ≡ number other.index = (let both : number col.index ∷ map (λ (one : ColId). number one.index) cols ≡ number other.index ∷ map (λ (one : ColId). number one.index) others = same_numbers in cc) in
    let tails : map (λ (one : ColId). number one.index) cols ≡ map (λ (one : ColId). number one.index) others =
    (let both : number col.index ∷ map (λ (one : ColId). number one.index) cols ≡ number other.index ∷ map (λ (one : ColId). number one.index) others = same_numbers in cc) in
    let index = number_same col.index other.index heads in
    let same_col : col ≡ other = λ k. record { index = index k } in
    let same_rest : cols ≡ others = same_cols cols others tails in
    λ k. same_col k ∷ same_rest k

module _ (basis : Basis) (is : IsBasis basis) (limits : IsWithinLimits basis.schema) (outer : ℕ) (row : outer ≤ 4) (fragment : LinkFragment) (assoc : Assoc) (key : ForeignKey)
    (joined : IsJoinedTo basis.schema key.from fragment assoc) (c : State) (legal : IsLegal basis.schema.model c) (link : Link) (stands : Contains (links_in c fragment.assoc) link)
    (shown : IsShown basis (told_link basis is key.from fragment assoc joined c legal link stands) key c) where
  abbrev The : Focus
  The = focus.Link fragment.assoc

  abbrev values : Valuation
  values = by_link basis.schema.model assoc link

  abbrev told : AllowedFocus basis
  told = told_link basis is key.from fragment assoc joined c legal link stands

  module _ (valued : (one : Symbol) (i : ℕ) → IsFlow basis The one i → (k : Kind) × (value_under values one ≡ fresh k outer i))
      (parts : (col : ColId) → Contains key.from_cols col → IsPartOrOuter basis outer The values (cell_at basis The key.from col))
      (target : Row) (at_target : Contains (rows_in shown.tables key.to) target) (alike : cells_of target key.to_cols ≡ cells_of shown.row key.from_cols)
      (link_row : IsAtLinkRow basis c fragment assoc link key.to (target_key basis is told key c shown target at_target alike)) where
    abbrev to : (table : Table) × At basis.schema.store.tables key.to.index table
    to = to_table basis is told key c shown target at_target alike

    same_table : key.from ≡ key.to
    same_table = sym joined.to_table ∙ link_row.joined.to_table

    of_row : HasRow (pattern_of basis The) key.to
    of_row = subst (HasRow (pattern_of basis The)) same_table shown.may.row

    ids : HasForeignIds basis.schema.store key
    ids = All-contains (HasForeignIds basis.schema.store) basis.schema.store.keys key is.sound.store.ids.foreign shown.is_key

    sound_key : IsSoundForeignKey basis.schema.store key
    sound_key = key_is_sound basis is key shown.is_key

    abbrev told_to : AllowedFocus basis
    told_to = told_link basis is key.to fragment assoc link_row.joined c legal link stands

    abbrev its_row : LinkRow basis
    its_row = record { state = c; legal = legal; fragment = fragment; assoc = assoc; link = link; t = key.to; key = row_key to.0 target; at = link_row }

    abbrev cell : ColId → List Symbol
    cell col = cell_symbols (writings_of basis The) key.to col

    has_cell : (col : ColId) → Contains key.to_cols col → HasCell (pattern_of basis The) key.to col (cell col)
    has_cell col has =
        let within : IsColId basis.schema.store key.to col = All-contains (IsColId basis.schema.store key.to) key.to_cols col ids.to_cols has in
        let inside = subst (λ (cols : List Column). col.index < length cols) (columns_are basis.schema.store key.to to.0 to.1) within in
        let column = item_at to.0.cols col.index inside in
        cell_there basis is The key.to col to.0 column.0 (record { is_table = to.1; is_column = column.1 }) of_row

    -- a column of the primary key holds an end of the link, and the matched one holds the same: so they are one
    matched : (col from : ColId) → Contains key.to_cols col → Contains key.from_cols from → col_beside col key.to_cols key.from_cols ≡ Some from → col ≡ from
    matched col from has has_from beside = by (cell_at basis The key.from from) refl (holds basis is told key c shown from has_from) (parts from has_from)
      where
        end : IsEndCell basis.schema fragment.assoc key.to col (cell col)
        end = end_cell basis is fragment.assoc (record { t = key.to; col = col; cell = cell col; has = has_cell col has }) (All-contains (Contains (key_columns basis.schema.store key.to)) key.to_cols col sound_key.columns.whole.only has)

        one : Symbol
        one = symbol.End fragment.assoc end.first end.pair.prop

        lists : Lists (pattern_of basis The) key.to col one
        lists = (cell col, has_cell col has, subst (λ list. Contains list one) (sym end.is) (contains_head one []))

        flow : (i : ℕ) × IsFlow basis The one i
        flow = end_flow basis is fragment.assoc key.to col fragment.assoc end.first end.pair.prop lists

        settled : cell_at basis The key.to col ≡ free one false
        settled = ap (settle basis.schema.model []) (cell_is basis The key.to col (cell col) (has_cell col has) ∙ end.is)

        target_value : cell_of target col ≡ value_under values one
        target_value =
            let held = held_at basis is told_to c key.to to.0 to.1 target (link_cells basis is its_row) (cells_demanded basis.schema c shown.tables shown.are key.to to.0 to.1 target at_target) col (cell col) (has_cell col has) in
            (subst (λ (it : Settled). HoldsSettled values it (cell_of target col)) settled held).0

        from_value : (i : ℕ) × (k : Kind) × IsFlow basis The one i × (cell_of shown.row from ≡ fresh k outer i)
        from_value = let value = valued one flow.0 flow.1 in
            (flow.0, value.0, flow.1, sym (cell_alike basis is told key c shown target at_target alike col from beside) ∙ target_value ∙ value.1)

        by : (it : Settled) → cell_at basis The key.from from ≡ it → HoldsSettled values it (cell_of shown.row from) → IsPartOrOuter basis outer The values it → col ≡ from
        by (known value) is_it held outside =
            let small = flow_small basis is limits The one from_value.0 from_value.2 in
            absurd (outside from_value.1 from_value.0 (omega (arith, small)) (sym held ∙ from_value.3))
        by (free other nullable) is_it held (inr outside) =
            let small = flow_small basis is limits The one from_value.0 from_value.2 in
            absurd (outside from_value.1 from_value.0 (omega (arith, small)) (sym held.0 ∙ from_value.3))
        by (free other nullable) is_it held (inl (j, flow_other)) =
            let value = valued other j flow_other in
            let index : j ≡ from_value.0 = (fresh_apart value.0 from_value.1 outer outer j from_value.0 row row (sym value.1 ∙ sym held.0 ∙ from_value.3)).1 in
            let same_symbol : one ≡ other = sym (flow_once basis is limits The other one j flow_other (subst (IsFlow basis The one) (sym index) from_value.2)) in
            let also : Lists (pattern_of basis The) key.from from one = subst (Lists (pattern_of basis The) key.from from) (sym same_symbol) (free_listed basis is key shown.is_key The shown.may.row from has_from other nullable is_it).0 in
            (end_once basis is fragment.assoc end.first end.pair.prop (record { of = The; t = key.to; col = col; lists = lists }) (record { of = The; t = key.from; col = from; lists = also })).1

    pub never_itself : ⊥
    never_itself =
        let f : ColId → Value = λ col. number col.index in
        let count : length key.to_cols ≡ length key.from_cols = as_many basis.schema.store key sound_key in
        let numbers : map f key.to_cols ≡ map f key.from_cols = all_alike f f key.to_cols key.from_cols sound_key.columns.whole.once count (λ col from has beside.
        ap f (matched col from has (from_among key.to_cols key.from_cols col from beside) beside)) in
        sound_key.elsewhere (same_table, sym (same_cols key.to_cols key.from_cols numbers))
