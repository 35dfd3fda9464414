-- A sound fragment of links without conditions, by tests and by facts on its pairs.
use Rattle.std.proofs.Common.{◌≡◌, List, [], ◌∷◌, ◌++◌, map, length}
use Rattle.std.specs.Prelude.{Bool, true, All, Contains}
use Rattle.std.specs.List.{AllByRecursion, list_all}
use Rattle.std.proofs.Math.Dec.{ltb}
use Rattle.std.proofs.lemmas.Bool.{ltb-true}
use Rattle.round_trip.specs.Words.{PropId, Assoc, Pair, LinkFragment, Cond, Schema, IsIndependent, key_props}
use Rattle.edm_types.specs.declared.mapping.CondOn.TheVariants as on
use Rattle.emc_base.specs.Lists.{HoldsEachOnce}
use Rattle.round_trip.specs.soundness.mappings.Fragments.{WritesToFitting}
use Rattle.round_trip.specs.soundness.mappings.Conditions.{ComparesInDomain}
use Rattle.round_trip.specs.soundness.mappings.Joined.{ComparesNoBarred}
use Rattle.round_trip.specs.soundness.mappings.Mappings.{HasPairIds, IsCondId, HasLinkFragmentIds, IsSoundLinkFragment}
use Rattle.round_trip.specs.soundness.mappings.Owners.{IsPlaced}
use Rattle.worked_examples.proofs.sound_examples.Names.{same_prop, same_col, props_decide, cols_decide}
use Rattle.worked_examples.proofs.sound_examples.Lists.{all_from, apart}
use Rattle.worked_examples.proofs.sound_examples.Tests.{all_true, each_true, all_pass, is_among, are_new, among, all_new}
use Rattle.worked_examples.proofs.sound_examples.mappings.Mappings.{asked, is_pair, pair_told, IsHeld, held_fits}

-- the list holds each of these once
abbrev once_tests : List PropId → List PropId → List Bool
once_tests these props = are_new same_prop props ∷ list_all (is_among same_prop props) these ∷ list_all (is_among same_prop these) props ∷ []

holds_once : (these props : List PropId) → all_true (once_tests these props) ≡ true → HoldsEachOnce these props
holds_once these props tests =
    let told = each_true (once_tests these props) tests in
    record {
      once = apart props (all_new same_prop props_decide props told.0);
      all = all_pass (Contains props) (is_among same_prop props) (among same_prop props_decide props) these told.1.0;
      only = all_pass (Contains these) (is_among same_prop these) (among same_prop props_decide these) props told.1.1.0;
    }

module _ (schema : Schema) (fragment : LinkFragment) (mapped : Assoc) where
  -- the properties of pairs
  abbrev props : List Pair → List PropId
  props pairs = map (λ pair. pair.prop) pairs

  -- every id is in range, each end's key is written once, and no column twice
  abbrev link_tests : List Bool
  link_tests = ltb fragment.assoc.index (length schema.model.assocs)
      ∷ ltb fragment.table.index (length schema.store.tables)
      ∷ list_all (is_pair schema fragment.table) (fragment.first ++ fragment.second)
      ∷ all_true (once_tests (key_props schema.model mapped.first.ty) (props fragment.first))
      ∷ all_true (once_tests (key_props schema.model mapped.second.ty) (props fragment.second))
      ∷ are_new same_col (map (λ pair. pair.col) (fragment.first ++ fragment.second))
      ∷ []

  module _ (tests : all_true link_tests ≡ true) (bare : AllByRecursion (λ cond. ⊥) fragment.conds) where
    -- what holds of no condition
    of_none : (P : Cond → Type 0) → All P fragment.conds
    of_none P = all_from P (λ cond. ⊥) fragment.conds (λ cond none. absurd none) bare

    link_ids : HasLinkFragmentIds schema fragment
    link_ids =
        let told = each_true link_tests tests in
        record {
          assoc = ltb-true fragment.assoc.index (length schema.model.assocs) told.0;
          table = ltb-true fragment.table.index (length schema.store.tables) told.1.0;
          pairs = all_pass (HasPairIds schema fragment.table) (is_pair schema fragment.table) (pair_told schema fragment.table) (fragment.first ++ fragment.second) told.1.1.0;
          conds = of_none (λ cond. IsCondId schema fragment.table cond.on);
        }

    pub links_from : AllByRecursion (IsHeld schema fragment.table) (fragment.first ++ fragment.second) → IsIndependent mapped → IsPlaced schema fragment mapped
        → HasLinkFragmentIds schema fragment × IsSoundLinkFragment schema fragment mapped
    links_from held independent placed =
        let told = each_true link_tests tests in
        let first : HoldsEachOnce (key_props schema.model mapped.first.ty) (props fragment.first) = holds_once (key_props schema.model mapped.first.ty) (props fragment.first) told.1.1.1.0 in
        let second : HoldsEachOnce (key_props schema.model mapped.second.ty) (props fragment.second)
        = holds_once (key_props schema.model mapped.second.ty) (props fragment.second) told.1.1.1.1.0 in (
          link_ids,
          record {
            kinds = all_from (WritesToFitting schema fragment.table) (IsHeld schema fragment.table) (fragment.first ++ fragment.second) (held_fits schema fragment.table) held;
            first = first;
            second = second;
            no_prop = λ prop some. asked (λ what. ⊥) fragment.conds (on.Prop prop) (of_none (λ cond. ⊥)) some;
            constants = of_none (ComparesInDomain schema fragment.table);
            no_key_column = λ col some. absurd (asked (λ what. ⊥) fragment.conds (on.Col col) (of_none (λ cond. ⊥)) some);
            placed = placed;
            independent = independent;
            barred = of_none (ComparesNoBarred schema fragment.table);
            once = record {
              first = first.once;
              second = second.once;
              cols = apart (map (λ pair. pair.col) (fragment.first ++ fragment.second)) (all_new same_col cols_decide (map (λ pair. pair.col) (fragment.first ++ fragment.second)) told.1.1.1.1.1.0);
            };
          },
        )
