-- A cell of the links of an association that has a table of its own lists one end alone, or symbols that have one value whatever the keys are.
use Rattle.std.proofs.Common.{◌≡◌, ◌⊎◌, ⊎_elim, inl, inr, ◌++◌, List, [], ◌∷◌, Bool, Contains, refl, sym, ap, subst, ◌∙◌}
use Rattle.std.proofs.lemmas.List.Elements.{All-contains}
use Rattle.emc_base.proofs.Lists.{only_member}
use Rattle.emc_base.proofs.Mapped.{contains_map}
use Rattle.round_trip.specs.Words.{AssocId, ColId, LinkFragment, Null, Pair, TableId, Test, Value, key_columns}
use Rattle.edm_types.specs.declared.mapping.Test.TheVariants.{IsNull, Equals}
use Rattle.schema_laws.specs.state_demand.WellWritten.{cols_of}
use Rattle.regions.specs.declared.pattern.Symbol.{Symbol}
use Rattle.regions.specs.declared.pattern.Symbol.TheVariants as symbol
use Rattle.regions.specs.declared.pattern.Focus.TheVariants as focus
use Rattle.regions.specs.Basis.{Basis}
use Rattle.regions.specs.Patterns.{Valuation, pattern_of, value_under}
use Rattle.regions.specs.Settled.{possible, single}
use Rattle.regions.specs.region_laws.IsBasis.{IsBasis}
use Rattle.regions.specs.region_laws.pattern.Listed.{IsEndCell, Lists}
use Rattle.regions.proofs.region_laws.pattern.Keys.{end_cell}
use Rattle.regions.proofs.region_laws.pattern.Laws.{listed_from}
use Rattle.regions.proofs.region_laws.pattern.symbols.Hosting.{one_link, side_among}
use Rattle.regions.proofs.region_laws.pattern.symbols.Origins.{From, GivesSymbol, by_cond, by_end, by_host, by_pair}
use Rattle.region_states.specs.conflicts.Conflicts.{IsTableOf}

module _ (basis : Basis) (is : IsBasis basis) (a : AssocId) (own : TableId) (of : IsTableOf basis a own) where
  -- the symbol has one value, whatever the keys are
  pub record IsFixed (one : Symbol) : Type 0 where
    pub value : Value
    pub alone : possible basis.schema.model [] one ≡ single value
    pub has : (values : Valuation) → value_under values one ≡ value

  -- the cell lists this end of the links alone
  pub record IsLoneEnd (cell : List Symbol) (one : Symbol) : Type 0 where
    pub at : Bool
    pub pair : Pair
    pub cell_is : cell ≡ symbol.End a at pair.prop ∷ []
    pub symbol_is : one ≡ symbol.End a at pair.prop

  fixed_null : IsFixed symbol.Null
  fixed_null = record { value = Null; alone = refl; has = λ values. refl }

  fixed_const : (value : Value) → IsFixed (symbol.Const value)
  fixed_const value = record { value = value; alone = refl; has = λ values. refl }

  -- a condition gives such a symbol
  given_fixed : (test : Test) (one : Symbol) → GivesSymbol test one → IsFixed one
  given_fixed (IsNull asked) one gives = subst IsFixed (sym gives.1) fixed_null
  given_fixed (Equals constant) one gives = subst IsFixed (sym gives) (fixed_const constant)

  module _ (t : TableId) (col : ColId) where
    -- the link fragment writes its ends to the primary key
    in_key : (fragment : LinkFragment) → Contains basis.schema.mapping.links fragment → fragment.assoc ≡ a → fragment.table ≡ t → (pair : Pair)
        → Contains (fragment.first ++ fragment.second) pair → pair.col ≡ col → Contains (key_columns basis.schema.store t) col
    in_key fragment mapped of_assoc to pair among at_col =
        let alike : of.fragment ≡ fragment = one_link basis is of.fragment fragment of.joined.is_fragment mapped (of.of_assoc ∙ sym of_assoc) in
        let tables : own ≡ t = sym of.joined.to_table ∙ ap (λ (f : LinkFragment). f.table) alike ∙ to in
        let P : LinkFragment → Type 0 = λ f. Contains (f.first ++ f.second) pair in
        let written : Contains (cols_of (of.fragment.first ++ of.fragment.second)) pair.col =
        contains_map (λ (one : Pair). one.col) (of.fragment.first ++ of.fragment.second) pair (subst P (sym alike) among) in
        let key : Contains (key_columns basis.schema.store own) pair.col =
        All-contains (Contains (key_columns basis.schema.store own)) (cols_of (of.fragment.first ++ of.fragment.second)) pair.col of.joined.whole written in
        let Q : ColId → Type 0 = λ c. Contains (key_columns basis.schema.store t) c in
        let K : TableId → Type 0 = λ u. Contains (key_columns basis.schema.store u) pair.col in
        subst Q at_col (subst K tables key)

    module _ (one : Symbol) (lists : Lists (pattern_of basis (focus.Link a)) t col one) where
      lone_end : Contains (key_columns basis.schema.store t) col → IsLoneEnd lists.0 one
      lone_end key =
          let end : IsEndCell basis.schema a t col lists.0 = end_cell basis is a (record { t = t; col = col; cell = lists.0; has = lists.1 }) key in
          record {
            at = end.first;
            pair = end.pair;
            cell_is = end.is;
            symbol_is = only_member lists.0 (symbol.End a end.first end.pair.prop) one end.is lists.2;
          }

      by_origin : From basis (focus.Link a) t col one → IsLoneEnd lists.0 one ⊎ IsFixed one
      by_origin (by_pair fragment pair mapped to among at_col same chosen) = absurd chosen
      by_origin (by_host fragment first pair mapped to among at_col same hosting) = absurd hosting
      by_origin (by_end fragment first pair mapped to among at_col same partner) =
          inl (lone_end (in_key fragment mapped partner to pair (side_among first fragment pair among) at_col))
      by_origin (by_cond cond asked on_col gives) = inr (given_fixed cond.test one gives)

      pub end_or_fixed : IsLoneEnd lists.0 one ⊎ IsFixed one
      end_or_fixed = by_origin (listed_from basis is (focus.Link a) t col one lists)
