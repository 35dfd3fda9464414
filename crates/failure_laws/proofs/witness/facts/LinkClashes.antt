-- In a cell of links two symbols that can differ do so whatever the keys are.
use Rattle.std.proofs.Common.{◌≡◌, ◌⊎◌, ⊎_elim, List, [], ◌∷◌, Contains, IsTrue, sym, ap, subst, ◌∙◌}
use Rattle.emc_base.proofs.Lists.{only_member}
use Rattle.round_trip.specs.Words.{AssocId, ColId, TableId, Value}
use Rattle.cells.specs.Limits.{IsWithinLimits}
use Rattle.regions.specs.declared.pattern.Symbol.{Symbol}
use Rattle.regions.specs.declared.pattern.Symbol.TheVariants as symbol
use Rattle.regions.specs.declared.pattern.Focus.TheVariants as focus
use Rattle.regions.specs.Basis.{Basis}
use Rattle.regions.specs.Patterns.{Valuation, by_link, pattern_of, value_under}
use Rattle.regions.specs.Settled.{Possible, possible, single}
use Rattle.regions.specs.region_laws.IsBasis.{IsBasis}
use Rattle.regions.specs.region_laws.pattern.Listed.{Lists}
use Rattle.region_states.specs.conflicts.Conflicts.{IsTableOf}
use Rattle.region_states.specs.conflicts.Facts.{is_clash}
use Rattle.population.specs.LinkStates.{plain_link}
use Rattle.conflict_laws.proofs.clash.Clashing.{Decides-clash, IsClash}
use Rattle.conflict_laws.proofs.clash.Listed.{cell_is}
use Rattle.failure_laws.specs.Facts.{SymbolsDiffer}
use Rattle.failure_laws.proofs.witness.facts.LinkSymbols.{IsFixed, IsLoneEnd, end_or_fixed}
use Rattle.failure_laws.proofs.witness.facts.LinkValues.{plain_allowed}

module _ (basis : Basis) (is : IsBasis basis) (a : AssocId) (own : TableId) (of : IsTableOf basis a own) (t : TableId) (col : ColId) where
  abbrev Listed : Symbol → Type 0
  Listed one = Lists (pattern_of basis (focus.Link a)) t col one

  -- beside an end nothing else is listed
  beside_end : (one two : Symbol) (lists_one : Listed one) (lists_two : Listed two) → IsLoneEnd basis is a own of lists_one.0 one → two ≡ one
  beside_end one two lists_one lists_two end =
      let cells : lists_two.0 ≡ lists_one.0 = sym (cell_is basis (focus.Link a) t col lists_two.0 lists_two.1) ∙ cell_is basis (focus.Link a) t col lists_one.0 lists_one.1 in
      only_member lists_one.0 (symbol.End a end.at end.pair.prop) two end.cell_is (subst (λ cell. Contains cell two) cells lists_two.2) ∙ sym end.symbol_is

  -- so symbols that can differ have one value each, and not the same
  pub fixed_differ : (one two : Symbol) → IsClash basis (focus.Link a) t col one two → (values : Valuation) → value_under values one ≡ value_under values two → ⊥
  fixed_differ one two clash values same = ⊎_elim
      (λ (end : IsLoneEnd basis is a own of clash.lists_one.0 one). clash.clash.different (sym (beside_end one two clash.lists_one clash.lists_two end)))
      (λ (fixed_one : IsFixed basis is a own of one). ⊎_elim
      (λ (end : IsLoneEnd basis is a own of clash.lists_two.0 two). clash.clash.different (beside_end two one clash.lists_two clash.lists_one end))
      (λ (fixed_two : IsFixed basis is a own of two).
      let values_same : fixed_two.value ≡ fixed_one.value = sym (fixed_two.has values) ∙ sym same ∙ fixed_one.has values in
      let P : Value → Type 0 = λ value. possible basis.schema.model [] two ≡ single value in
      clash.clash.not_alike (fixed_one.value, fixed_one.alone, subst P values_same fixed_two.alone))
      (end_or_fixed basis is a own of t col two clash.lists_two))
      (end_or_fixed basis is a own of t col one clash.lists_one)

  pub link_clash_so : IsWithinLimits basis.schema → (one two : Symbol) → IsTrue (is_clash basis (focus.Link a) t col one two) → SymbolsDiffer basis (focus.Link a) t col one two
  link_clash_so limits one two told =
      let clash : IsClash basis (focus.Link a) t col one two = (Decides-clash basis (focus.Link a) t col one two).0 told in
      let values : Valuation = by_link basis.schema.model of.assoc (plain_link basis.schema.model 0 of.assoc) in
      record {
        lists_one = clash.lists_one;
        lists_two = clash.lists_two;
        values = values;
        allowed = plain_allowed basis is a own of limits;
        differ = fixed_differ one two clash values;
      }
