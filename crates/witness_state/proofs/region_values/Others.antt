-- The changes to the two other values of a property that may have several.
use Rattle.std.proofs.Common.{◌≡◌, ◌++◌, List, [], ◌∷◌, map, slice_get, Option, Some, true, sym, ap, subst, ◌∙◌}
use Rattle.std.specs.Option.{option_map_or}
use Rattle.std.proofs.lemmas.List.{map-append}
use Rattle.round_trip.specs.Words.{PropId, Prop}
use Rattle.condition_logic.specs.declared.atoms.AtomOf.{AtomOf}
use Rattle.region_states.specs.conflicts.SameFacts.{is_multi}
use Rattle.regions.specs.declared.region.Region.{Region}
use Rattle.regions.specs.declared.pattern.Symbol.{Symbol}
use Rattle.regions.specs.declared.pattern.Symbol.TheVariants as symbol
use Rattle.regions.specs.Basis.{Basis}
use Rattle.regions.specs.Settled.{Possible, single, multi, possible}
use Rattle.region_states.specs.defaults.Defaults.{alone, changed, default_valuation, one_value, other_value}
use Rattle.conflict_laws.specs.clash.ClashValues.{with_others}
use Rattle.witness_state.specs.declared.region_values.changes.Change.{Change}
use Rattle.witness_state.specs.region_values.Changes.{both_changes, by_change}

module _ (basis : Basis) (region : Region) (p : PropId) (declared : Prop) (here : Some declared ≡ slice_get basis.schema.model.props p.index) where
  with_both : (can : Possible) → true ≡ is_multi can → map (by_change basis region) (both_changes basis p declared) ≡ with_others basis region (symbol.Prop p) can
  with_both (single value) several = absurd (cc)
  with_both (multi nullable) several = ap (λ found. option_map_or (λ one.
      changed (default_valuation basis 0 region) (alone p (one_value basis p one)) ∷ changed (default_valuation basis 0 region) (alone p (other_value basis p one)) ∷ []) found []) here

  -- they are put behind
  pub others_behind : (one : Symbol) → one ≡ symbol.Prop p → (atoms : List AtomOf) → atoms ≡ region.atoms
      → true ≡ is_multi (possible basis.schema.model atoms (symbol.Prop p)) → (before after : List (Option Change)) → after ≡ before ++ both_changes basis p declared
      → map (by_change basis region) after ≡ map (by_change basis region) before ++ with_others basis region one (possible basis.schema.model region.atoms one)
  others_behind one is atoms same several before after added =
      let Several : List AtomOf → Type 0 = λ told. true ≡ is_multi (possible basis.schema.model told (symbol.Prop p)) in
      ap (map (by_change basis region)) added
      ∙ map-append (by_change basis region) before (both_changes basis p declared)
      ∙ ap (λ more. map (by_change basis region) before ++ more)
      (with_both (possible basis.schema.model region.atoms (symbol.Prop p)) (subst Several same several)
      ∙ ap (λ symbol. with_others basis region symbol (possible basis.schema.model region.atoms symbol)) (sym is))
