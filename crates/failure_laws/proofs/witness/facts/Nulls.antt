-- A required column of a row that lacks a value: what is computed of it, and what is so.
use Rattle.std.proofs.Common.{◌≡◌, ◌⊎◌, ⊎_elim, inl, inr, ◌&&◌, List, [], ◌∷◌, Contains, true, false, IsTrue, refl, sym, subst, ◌∙◌, arith}
use Rattle.std.proofs.lemmas.Bool.{and_from, and_parts}
use Rattle.round_trip.specs.Words.{AssocId, ColId, Null, SetId, TableId, Value}
use Rattle.schema_laws.proofs.state_demand.lists.Lists.{none_in_nil}
use Rattle.schema_laws.proofs.state_demand.writings.Selecting.{Decides-value}
use Rattle.cells.specs.Limits.{IsWithinLimits}
use Rattle.regions.specs.declared.region.Region.{Region}
use Rattle.regions.specs.declared.pattern.Symbol.{Symbol}
use Rattle.regions.specs.declared.pattern.Symbol.TheVariants as symbol
use Rattle.regions.specs.declared.pattern.Focus.{Focus}
use Rattle.regions.specs.declared.pattern.Focus.TheVariants as focus
use Rattle.regions.specs.Basis.{Basis}
use Rattle.regions.specs.Patterns.{Valuation, by_link, cell_symbols, pattern_of, value_under, writings_of}
use Rattle.regions.specs.Regions.{regions_of}
use Rattle.regions.specs.Settled.{Possible, multi, possible, single}
use Rattle.regions.specs.Symbols.{same_symbol}
use Rattle.regions.specs.region_laws.IsBasis.{IsBasis}
use Rattle.regions.specs.region_laws.pattern.Allowed.{AllowedFocus, AreAllowed, CanBe, IsFocus, told_of}
use Rattle.regions.specs.region_laws.pattern.Listed.{HasCell, Lists}
use Rattle.regions.proofs.region_laws.pattern.Laws.{symbol_possible}
use Rattle.regions.proofs.region_laws.values.Symbols.{Decides-symbol}
use Rattle.region_states.specs.conflicts.Conflicts.{IsTableOf}
use Rattle.region_states.specs.conflicts.Facts.{can_be_null, has_row, is_null_in, is_required, listed_in, lists, stands_for_null}
use Rattle.region_states.specs.defaults.Defaults.{default_valuation}
use Rattle.region_states.proofs.defaults.Defaults.{default_admissible}
use Rattle.region_states.specs.focus.Held.{HasRow}
use Rattle.population.specs.LinkStates.{plain_link}
use Rattle.conflict_laws.proofs.clash.Listed.{Decides-lists, cell_is}
use Rattle.conflict_laws.proofs.null.Listed.{Decides-row, cell_there}
use Rattle.conflict_laws.proofs.null.Nulls.{default_null, null_possible}
use Rattle.conflict_laws.proofs.null.Required.{required_there, required_told}
use Rattle.failure_laws.specs.Facts.{LacksValue, SymbolIsNull}
use Rattle.failure_laws.proofs.witness.facts.LinkSymbols.{IsFixed, IsLoneEnd, end_or_fixed}
use Rattle.failure_laws.proofs.witness.facts.LinkValues.{plain_allowed}

module _ (basis : Basis) (is : IsBasis basis) where
  module _ (of : Focus) (t : TableId) (col : ColId) (one : Symbol) where
    abbrev Stands : List Symbol → Type 0
    Stands cell = IsTrue (stands_for_null basis of cell one)

    abbrev can_null : Symbol → Type 0
    can_null other = IsTrue (can_be_null (possible basis.schema.model (told_of of) other))

    -- a listed symbol that can be null stands for it
    listed_stands : (cell : List Symbol) → Contains cell one → can_null one → Stands cell
    listed_stands [] has null = absurd (none_in_nil one has)
    listed_stands (first ∷ rest) has null =
        and_from (lists (first ∷ rest) one) (can_be_null (possible basis.schema.model (told_of of) one)) ((Decides-lists (first ∷ rest) one).1 has) null

    -- a symbol that some values make null can be null
    null_stands : IsFocus basis of → SymbolIsNull basis of t col one → Stands (listed_in (pattern_of basis of) t col)
    null_stands here so =
        let told : AllowedFocus basis = record { of = of; is_focus = here; values = so.values; allowed = so.allowed } in
        let P : Value → Type 0 = CanBe (possible basis.schema.model (told_of of) one) in
        subst Stands (sym (cell_is basis of t col so.lists.0 so.lists.1))
        (listed_stands so.lists.0 so.lists.2 (null_possible (possible basis.schema.model (told_of of) one) (subst P so.null (symbol_possible basis is told t col one so.lists))))

    -- the symbol of null stands for it where nothing is listed
    empty_stands : HasCell (pattern_of basis of) t col [] × (one ≡ symbol.Null) → Stands (listed_in (pattern_of basis of) t col)
    empty_stands (at, null) =
        let P : Symbol → Type 0 = λ other. IsTrue (stands_for_null basis of [] other) in
        subst Stands (sym (cell_is basis of t col [] at)) (subst P (sym null) refl)

    pub null_computed : IsFocus basis of → LacksValue basis of t col one → IsTrue (is_null_in basis of t col one)
    null_computed here so =
        let row : IsTrue (has_row (pattern_of basis of) t) = (Decides-row (pattern_of basis of) t).1 so.row in
        let required : IsTrue (is_required basis.schema.store t col) = required_told basis.schema t col so.table so.column so.has_column so.not_nullable in
        let stands : Stands (listed_in (pattern_of basis of) t col) = ⊎_elim empty_stands (null_stands here) so.null in
        and_from (has_row (pattern_of basis of) t && is_required basis.schema.store t col) (stands_for_null basis of (listed_in (pattern_of basis of) t col) one)
        (and_from (has_row (pattern_of basis of) t) (is_required basis.schema.store t col) row required) stands

    -- where a listed symbol that can be null is so by some values, a row lacks a value as it is computed
    module _ (nulls : Lists (pattern_of basis of) t col one → can_null one → SymbolIsNull basis of t col one) where
      abbrev IsLacking : Type 0
      IsLacking = (HasCell (pattern_of basis of) t col [] × (one ≡ symbol.Null)) ⊎ SymbolIsNull basis of t col one

      lacking : (cell : List Symbol) → HasCell (pattern_of basis of) t col cell → Stands cell → IsLacking
      lacking [] at told = inl (at, sym ((Decides-symbol symbol.Null one).0 told))
      lacking (first ∷ rest) at told =
          let both = and_parts (lists (first ∷ rest) one) (can_be_null (possible basis.schema.model (told_of of) one)) told in
          inr (nulls (first ∷ rest, at, (Decides-lists (first ∷ rest) one).0 both.0) both.1)

      null_so : IsTrue (is_null_in basis of t col one) → LacksValue basis of t col one
      null_so told =
          let last = and_parts (has_row (pattern_of basis of) t && is_required basis.schema.store t col) (stands_for_null basis of (listed_in (pattern_of basis of) t col) one) told in
          let first = and_parts (has_row (pattern_of basis of) t) (is_required basis.schema.store t col) last.0 in
          let row : HasRow (pattern_of basis of) t = (Decides-row (pattern_of basis of) t).0 first.0 in
          let required = required_there basis.schema t col first.1 in
          let cell : List Symbol = cell_symbols (writings_of basis of) t col in
          let at : HasCell (pattern_of basis of) t col cell = cell_there basis is of t col required.table required.column required.here row in
          record {
            row = row;
            table = required.table;
            column = required.column;
            has_column = required.here;
            not_nullable = required.needed;
            null = lacking cell at (subst Stands (cell_is basis of t col cell at) last.1);
          }

  -- of a region the usual values make it null
  pub region_null_so : IsWithinLimits basis.schema → (s : SetId) (region : Region) → Contains (regions_of basis s) region → (t : TableId) (col : ColId) (one : Symbol)
      → IsTrue (is_null_in basis (focus.Entity region) t col one) → LacksValue basis (focus.Entity region) t col one
  region_null_so limits s region has t col one = null_so (focus.Entity region) t col one (λ listed null. record {
    lists = listed;
    values = default_valuation basis 0 region;
    allowed = (default_admissible basis is limits s region has 0 (omega arith)).allowed;
    null = default_null basis is limits s region has t col one listed null;
  })

  -- of a link it is null whatever the keys are
  pub link_null_so : IsWithinLimits basis.schema → (a : AssocId) (own : TableId) → IsTableOf basis a own → (t : TableId) (col : ColId) (one : Symbol)
      → IsTrue (is_null_in basis (focus.Link a) t col one) → LacksValue basis (focus.Link a) t col one
  link_null_so limits a own of t col one = null_so (focus.Link a) t col one (λ listed null.
      let values : Valuation = by_link basis.schema.model of.assoc (plain_link basis.schema.model 0 of.assoc) in
      let Can : Possible → Type 0 = λ can. IsTrue (can_be_null can) in
      record {
        lists = listed;
        values = values;
        allowed = plain_allowed basis is a own of limits;
        null = ⊎_elim
            (λ (end : IsLoneEnd basis is a own of listed.0 one).
            absurd (let P : Symbol → Type 0 = λ other. Can (possible basis.schema.model [] other) in let never : false ≡ true = subst P end.symbol_is null in cc))
            (λ (fixed : IsFixed basis is a own of one). fixed.has values ∙ (Decides-value fixed.value Null).0 (subst Can fixed.alone null))
            (end_or_fixed basis is a own of t col one listed);
      })
