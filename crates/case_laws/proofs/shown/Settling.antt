-- What a case tells of a cell: what the cell's symbols are settled to, where the column isn't free.
use Rattle.std.proofs.Common.{◌≡◌, ◌≢◌, AllPairs, inl, inr, ◌++◌, List, [], ◌∷◌, Contains, Bool, true, false, true≢false, if◌then◌else◌, refl, sym, ap, subst, ◌∙◌}
use Rattle.std.proofs.lemmas.List.Elements.{All-contains}
use Rattle.round_trip.specs.Words.{TableId, ColId, AssocId, PropId, Cond, EntityModel, Fragment, LinkFragment, Null, Pair, Table, Value, At, IsFree, IsNamedBy, IsWritten}
use Rattle.edm_types.specs.declared.mapping.CondOn.TheVariants as on
use Rattle.condition_logic.specs.declared.atoms.AtomOf.{AtomOf}
use Rattle.member_groups.specs.Tested.{HasCondition}
use Rattle.schema_laws.specs.state_demand.WellWritten.{FitsTable, cols_of}
use Rattle.schema_laws.proofs.state_demand.lists.Lists.{any_of, of_any}
use Rattle.emc_base.proofs.Numbered.{map_contains}
use Rattle.schema_laws.proofs.sound_demand.Fitting.{well_written}
use Rattle.regions.specs.declared.region.Region.{Region}
use Rattle.regions.specs.declared.pattern.Focus.{Focus}
use Rattle.regions.specs.declared.pattern.Focus.TheVariants as focus
use Rattle.regions.specs.declared.pattern.Symbol.{Symbol}
use Rattle.regions.specs.declared.pattern.Symbol.TheVariants as symbol
use Rattle.regions.specs.Basis.{Basis}
use Rattle.regions.specs.Patterns.{pattern_of, writings_of}
use Rattle.regions.specs.Settled.{Possible, Settled, known, free, multi, possible, settle, settled_by, single}
use Rattle.regions.specs.region_laws.IsBasis.{IsBasis}
use Rattle.regions.specs.region_laws.pattern.Listed.{Lists}
use Rattle.regions.proofs.region_laws.pattern.Cells.{cell_apart, cell_of as made_cell}
use Rattle.regions.proofs.region_laws.pattern.Laws.{listed_from}
use Rattle.regions.proofs.region_laws.pattern.symbols.Hosting.{side_among}
use Rattle.regions.proofs.region_laws.pattern.symbols.Origins.{From, by_cond, by_end, by_host, by_pair, side}
use Rattle.regions.proofs.region_laws.pattern.Settled.{free_is}
use Rattle.conflict_laws.specs.rival.Alike.{IsClear}
use Rattle.conflict_laws.proofs.rival.Clear.{clear_cell}
use Rattle.case_laws.specs.declared.region_cases.case.CaseCell.{CaseCell}
use Rattle.case_laws.specs.declared.region_cases.case.CaseCell.TheVariants as cell
use Rattle.case_laws.specs.region_cases.Cases.{by_settled}
use Rattle.case_laws.specs.Reading.{DecidesFree}
use Rattle.case_laws.proofs.shown.Cases.{IsCell, told_of_cell}

-- a property that is shown is that of the one symbol
prop_settled : (settled : Settled) (p : PropId) → by_settled settled ≡ cell.Prop p → (n : Bool) × (settled ≡ free (symbol.Prop p) n)
prop_settled (known value) p is = cc
prop_settled (free symbol.Null n) p is = cc
prop_settled (free (symbol.Const value) n) p is = cc
prop_settled (free (symbol.Prop q) n) p is = let same : q ≡ p = cc in (n, λ k. free (symbol.Prop (same k)) n)
prop_settled (free (symbol.End a first q) n) p is = cc

-- so is a part of a partner's key
part_settled : (settled : Settled) (a : AssocId) (p : PropId) → by_settled settled ≡ cell.Partner a p
    → (first : Bool) × (n : Bool) × (settled ≡ free (symbol.End a first p) n)
part_settled (known value) a p is = cc
part_settled (free symbol.Null n) a p is = cc
part_settled (free (symbol.Const value) n) a p is = cc
part_settled (free (symbol.Prop q) n) a p is = cc
part_settled (free (symbol.End b first q) n) a p is = let assoc : b ≡ a = cc in let same : q ≡ p = cc in (first, n, λ k. free (symbol.End (assoc k) first (same k)) n)

-- a constant is known
module _ (model : EntityModel) (atoms : List AtomOf) where
  const_settled : (symbols : List Symbol) (value : Value) → by_settled (settle model atoms symbols) ≡ cell.Const value → settle model atoms symbols ≡ known value
  const_settled [] value is = let same : Null ≡ value = cc in λ k. known (same k)
  const_settled (symbol.Null ∷ rest) value is = let same : Null ≡ value = cc in λ k. known (same k)
  const_settled (symbol.Const one ∷ rest) value is = let same : one ≡ value = cc in λ k. known (same k)
  const_settled (symbol.Prop p ∷ rest) value is = by (possible model atoms (symbol.Prop p)) is
    where
      by : (can : Possible) → by_settled (settled_by (symbol.Prop p) can) ≡ cell.Const value → settled_by (symbol.Prop p) can ≡ known value
      by (single one) told = let same : one ≡ value = cc in λ k. known (same k)
      by (multi n) told = cc
  const_settled (symbol.End a first p ∷ rest) value is = cc

-- where a choice isn't its first item, the second is chosen
pub chosen_other : {X : Type 0} (b : Bool) (one other found : X) → (if b then one else other) ≡ found → ¬ (one ≡ found) → (b ≡ false) × (other ≡ found)
chosen_other true one other found is not = absurd (not is)
chosen_other false one other found is not = (refl, is)

module _ (is_free : TableId → ColId → Bool) (basis : Basis) (region : Region) (t : TableId) (col : ColId) (symbols : List Symbol) where
  abbrev told : CaseCell
  told = told_of_cell is_free basis region t col symbols

  abbrev settled : Settled
  settled = settle basis.schema.model region.atoms symbols

  -- a constant: the column isn't free, and the value is known
  pub tells_const : (value : Value) → told ≡ cell.Const value → (is_free t col ≡ false) × (settled ≡ known value)
  tells_const value is =
      let other = chosen_other (is_free t col) cell.Free (by_settled settled) (cell.Const value) is (λ same. cc) in
      (other.0, const_settled basis.schema.model region.atoms symbols value other.1)

  -- a property
  pub tells_prop : (p : PropId) → told ≡ cell.Prop p → (is_free t col ≡ false) × (n : Bool) × (settled ≡ free (symbol.Prop p) n)
  tells_prop p is =
      let other = chosen_other (is_free t col) cell.Free (by_settled settled) (cell.Prop p) is (λ same. cc) in
      let by = prop_settled settled p other.1 in
      (other.0, by.0, by.1)

  -- a part of a partner's key
  pub tells_part : (a : AssocId) (p : PropId) → told ≡ cell.Partner a p
      → (is_free t col ≡ false) × (first : Bool) × (n : Bool) × (settled ≡ free (symbol.End a first p) n)
  tells_part a p is =
      let other = chosen_other (is_free t col) cell.Free (by_settled settled) (cell.Partner a p) is (λ same. cc) in
      let by = part_settled settled a p other.1 in
      (other.0, by.0, by.1, by.2)

  -- and where the column isn't free, it tells what the symbols are settled to
  pub told_settled : is_free t col ≡ false → told ≡ by_settled settled
  told_settled bound = ap (λ b. if b then cell.Free else by_settled settled) bound

module _ (basis : Basis) (is : IsBasis basis) where
  -- in a clear region a cell that isn't settled to a value lists one symbol alone
  pub alone : (region : Region) → IsClear basis region → (t : TableId) (col : ColId) (symbols : List Symbol) → IsCell basis region t col symbols
      → (one : Symbol) (n : Bool) → settle basis.schema.model region.atoms symbols ≡ free one n
      → (symbols ≡ one ∷ []) × (possible basis.schema.model region.atoms one ≡ multi n)
  alone region clear t col symbols has one n settled =
      let made = made_cell basis.schema.store (writings_of basis (focus.Entity region)) t col symbols has in
      let Apart : List Symbol → Type 0 = AllPairs (λ one two. one ≢ two) in
      free_is basis.schema.model region.atoms symbols (subst Apart (sym made.is) (cell_apart (writings_of basis (focus.Entity region)) t col)) (clear_cell basis region clear t col symbols has) one n settled

  -- a column that is named isn't free
  named_pair : (fragment : Fragment) → Contains basis.schema.mapping.fragments fragment → (t : TableId) (col : ColId) → fragment.table ≡ t
      → IsNamedBy fragment.pairs fragment.conds col → ¬ IsFree basis.schema t col
  named_pair fragment mapped t col to named is_free =
      let Unnamed : Fragment → Type 0 = λ one. one.table ≡ t → ¬ IsNamedBy one.pairs one.conds col in
      All-contains Unnamed basis.schema.mapping.fragments fragment is_free.unnamed mapped to named

  named_link : (fragment : LinkFragment) → Contains basis.schema.mapping.links fragment → (t : TableId) (col : ColId) → fragment.table ≡ t
      → IsNamedBy (fragment.first ++ fragment.second) fragment.conds col → ¬ IsFree basis.schema t col
  named_link fragment mapped t col to named is_free =
      let Unnamed : LinkFragment → Type 0 = λ one. one.table ≡ t → ¬ IsNamedBy (one.first ++ one.second) one.conds col in
      All-contains Unnamed basis.schema.mapping.links fragment is_free.unlinked mapped to named

  pub side_named : (fragment : LinkFragment) → Contains basis.schema.mapping.links fragment → (t : TableId) (col : ColId) → fragment.table ≡ t
      → (first : Bool) (pair : Pair) → Contains (side first fragment) pair → pair.col ≡ col → ¬ IsFree basis.schema t col
  side_named fragment mapped t col to first pair among at_col = named_link fragment mapped t col to
      (inl (any_of (λ (one : Pair). one.col ≡ col) (fragment.first ++ fragment.second) pair (side_among first fragment pair among) at_col))

  cond_named : (t : TableId) (col : ColId) (cond : Cond) → HasCondition basis.schema t cond → cond.on ≡ on.Col col → ¬ IsFree basis.schema t col
  cond_named t col cond (inl (fragment, mapped, to, among)) at_col = named_pair fragment mapped t col to
      (inr (any_of (λ (one : Cond). one.on ≡ on.Col col) fragment.conds cond among at_col))
  cond_named t col cond (inr (fragment, mapped, to, among)) at_col = named_link fragment mapped t col to
      (inr (any_of (λ (one : Cond). one.on ≡ on.Col col) fragment.conds cond among at_col))

  from_named : (of : Focus) (t : TableId) (col : ColId) (one : Symbol) → From basis of t col one → ¬ IsFree basis.schema t col
  from_named of t col one (by_pair fragment pair mapped to among at_col same chosen) = named_pair fragment mapped t col to
      (inl (any_of (λ (other : Pair). other.col ≡ col) fragment.pairs pair among at_col))
  from_named of t col one (by_host fragment first pair mapped to among at_col same hosting) = side_named fragment mapped t col to first pair among at_col
  from_named of t col one (by_end fragment first pair mapped to among at_col same partner) = side_named fragment mapped t col to first pair among at_col
  from_named of t col one (by_cond cond has at_col gives) = cond_named t col cond has at_col

  -- a column of the primary key of a table that is written isn't free
  pub key_named : (t : TableId) (table : Table) → At basis.schema.store.tables t.index table → IsWritten basis.schema.mapping t → (col : ColId) → Contains table.key col
      → ¬ IsFree basis.schema t col
  key_named t table here (inl any) col among =
      let found = of_any (λ (fragment : Fragment). fragment.table ≡ t) basis.schema.mapping.fragments any in
      let Fits : Fragment → Type 0 = λ one. (other : Table) → At basis.schema.store.tables one.table.index other → FitsTable other (cols_of one.pairs) one.conds in
      let AtTable : TableId → Type 0 = λ u. At basis.schema.store.tables u.index table in
      let fits : FitsTable table (cols_of found.0.pairs) found.0.conds =
      All-contains Fits basis.schema.mapping.fragments found.0 (well_written basis.schema is.sound).fragments found.1 table (subst AtTable (sym found.2) here) in
      let pair = map_contains (λ (one : Pair). one.col) found.0.pairs col (All-contains (Contains (cols_of found.0.pairs)) table.key col fits.writes_key among) in
      named_pair found.0 found.1 t col found.2 (inl (any_of (λ (one : Pair). one.col ≡ col) found.0.pairs pair.0 pair.1 pair.2))
  key_named t table here (inr any) col among =
      let found = of_any (λ (fragment : LinkFragment). fragment.table ≡ t) basis.schema.mapping.links any in
      let Fits : LinkFragment → Type 0 = λ one. (other : Table) → At basis.schema.store.tables one.table.index other
      → FitsTable other (cols_of (one.first ++ one.second)) one.conds in
      let AtTable : TableId → Type 0 = λ u. At basis.schema.store.tables u.index table in
      let pairs : List Pair = found.0.first ++ found.0.second in
      let fits : FitsTable table (cols_of pairs) found.0.conds =
      All-contains Fits basis.schema.mapping.links found.0 (well_written basis.schema is.sound).links found.1 table (subst AtTable (sym found.2) here) in
      let pair = map_contains (λ (one : Pair). one.col) pairs col (All-contains (Contains (cols_of pairs)) table.key col fits.writes_key among) in
      named_link found.0 found.1 t col found.2 (inl (any_of (λ (one : Pair). one.col ≡ col) pairs pair.0 pair.1 pair.2))

  module _ (is_free : TableId → ColId → Bool) (decides : DecidesFree basis.schema is_free) where
    -- by the answer
    pub not_free : (t : TableId) (col : ColId) → is_free t col ≡ false → ¬ IsFree basis.schema t col
    not_free t col bound free_there = true≢false (sym ((decides.tells t col).1 free_there) ∙ bound)

    pub answered : (t : TableId) (col : ColId) → ¬ IsFree basis.schema t col → is_free t col ≡ false
    answered t col not = by (is_free t col) refl
      where
        by : (b : Bool) → is_free t col ≡ b → is_free t col ≡ false
        by false told = told
        by true told = absurd (not ((decides.tells t col).0 told))

    -- a column in which a symbol is listed isn't free
    pub focus_bound : (of : Focus) (t : TableId) (col : ColId) (one : Symbol) → Lists (pattern_of basis of) t col one → is_free t col ≡ false
    focus_bound of t col one lists = answered t col (from_named of t col one (listed_from basis is of t col one lists))

    pub listed_bound : (region : Region) (t : TableId) (col : ColId) (symbols : List Symbol) → IsCell basis region t col symbols → (one : Symbol) → Contains symbols one
        → is_free t col ≡ false
    listed_bound region t col symbols has one among = focus_bound (focus.Entity region) t col one (symbols, has, among)
