-- Two symbols of a cell that some allowed values make differ can differ; and those of a region that can differ do so by some values.
use Rattle.std.proofs.Common.{◌≡◌, ◌≢◌, Contains, IsTrue, ap, subst, sym, ◌∙◌}
use Rattle.round_trip.specs.Words.{SetId, TableId, ColId, Value}
use Rattle.cells.specs.Limits.{IsWithinLimits}
use Rattle.regions.specs.declared.region.Region.{Region}
use Rattle.regions.specs.declared.pattern.Symbol.{Symbol}
use Rattle.regions.specs.declared.pattern.Focus.{Focus}
use Rattle.regions.specs.declared.pattern.Focus.TheVariants as focus
use Rattle.regions.specs.Basis.{Basis}
use Rattle.regions.specs.Patterns.{pattern_of, value_under}
use Rattle.regions.specs.Regions.{regions_of}
use Rattle.regions.specs.Settled.{Possible, possible, single}
use Rattle.regions.specs.region_laws.IsBasis.{IsBasis}
use Rattle.regions.specs.region_laws.pattern.Allowed.{AllowedFocus, CanBe, IsFocus, told_of}
use Rattle.regions.specs.region_laws.pattern.Listed.{Lists}
use Rattle.regions.proofs.region_laws.pattern.Laws.{symbol_possible}
use Rattle.region_states.specs.conflicts.Facts.{is_clash}
use Rattle.conflict_laws.specs.clash.ClashValues.{clash_values}
use Rattle.conflict_laws.specs.Told.{ClashingCell}
use Rattle.conflict_laws.proofs.clash.Clashing.{AreOne, Decides-clash, IsClash}
use Rattle.conflict_laws.proofs.clash.Values.{values_differ}
use Rattle.failure_laws.specs.Facts.{SymbolsDiffer}

module _ (basis : Basis) (is : IsBasis basis) where
  module _ (of : Focus) (here : IsFocus basis of) (t : TableId) (col : ColId) (one two : Symbol) where
    abbrev can : Symbol → Possible
    can = possible basis.schema.model (told_of of)

    -- a symbol that can have one value alone has it
    has_value : (so : SymbolsDiffer basis of t col one two) (other : Symbol) → Lists (pattern_of basis of) t col other → (value : Value) → can other ≡ single value
        → value_under so.values other ≡ value
    has_value so other lists value alone =
        let told : AllowedFocus basis = record { of = of; is_focus = here; values = so.values; allowed = so.allowed } in
        let P : Possible → Type 0 = λ possibly. CanBe possibly (value_under so.values other) in
        subst P alone (symbol_possible basis is told t col other lists)

    -- so symbols that differ by some values can differ
    pub clash_computed : SymbolsDiffer basis of t col one two → IsTrue (is_clash basis of t col one two)
    clash_computed so = (Decides-clash basis of t col one two).1 (record {
      lists_one = so.lists_one;
      lists_two = so.lists_two;
      clash = record {
        different = λ same. so.differ (ap (value_under so.values) same);
        not_alike = λ (are : AreOne (can one) (can two)). so.differ (has_value so one so.lists_one are.0 are.1 ∙ sym (has_value so two so.lists_two are.0 are.2));
      };
    })

  -- in a region's pattern symbols that can differ do so by these values
  pub clash_so : IsWithinLimits basis.schema → (s : SetId) (region : Region) → Contains (regions_of basis s) region → (t : TableId) (col : ColId) (one two : Symbol)
      → IsTrue (is_clash basis (focus.Entity region) t col one two) → SymbolsDiffer basis (focus.Entity region) t col one two
  clash_so limits s region has t col one two told =
      let at : ClashingCell basis = record { s = s; region = region; listed = has; t = t; col = col; one = one; two = two; clash = told } in
      let clash : IsClash basis (focus.Entity region) t col one two = (Decides-clash basis (focus.Entity region) t col one two).0 told in
      let chosen = values_differ basis is limits at in
      record { lists_one = clash.lists_one; lists_two = clash.lists_two; values = clash_values basis region one two; allowed = chosen.0.allowed; differ = chosen.1 }
