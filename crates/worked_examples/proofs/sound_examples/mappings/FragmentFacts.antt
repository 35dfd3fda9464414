-- A sound fragment of entities, by tests and by facts on its lists.
use Rattle.std.proofs.Common.{◌≡◌, inl, inr, ◌∷◌, [], List, ◌&&◌, map, length, subst}
use Rattle.std.specs.Prelude.{Bool, true, Some, All, Any, Contains}
use Rattle.std.specs.Bool.{Decides}
use Rattle.std.specs.List.{AllByRecursion, list_any, list_all}
use Rattle.std.proofs.Math.Dec.{ltb}
use Rattle.std.proofs.lemmas.Bool.{ltb-true, and_parts}
use Rattle.std.proofs.lemmas.List.Elements.{All-contains}
use Rattle.round_trip.specs.Words.{PropId, TableId, ColId, Value, Kind, InDomain, Fragment, Pair, Cond, CondOn, Schema, props_of, key_columns}
use Rattle.edm_types.specs.declared.mapping.CondOn.TheVariants as on
use Rattle.edm_types.specs.declared.mapping.Test.TheVariants.{Equals}
use Rattle.round_trip.specs.soundness.Kinds.{IsBinary}
use Rattle.round_trip.specs.soundness.Lookups.{set_key, columns_of, IsUnderElement}
use Rattle.round_trip.specs.soundness.models.ModelIds.{IsTypeId}
use Rattle.round_trip.specs.soundness.mappings.Fragments.{NamesSharedProps, WritesToFitting}
use Rattle.round_trip.specs.soundness.mappings.Conditions.{kind_of, ComparesInDomain}
use Rattle.round_trip.specs.soundness.mappings.Joined.{Member, prop, col, TellsOther, ComparesNoBarred, WritesNoBarredEnum}
use Rattle.round_trip.specs.soundness.mappings.Mappings.{HasPairIds, IsCondId, IsSoundFragment}
use Rattle.worked_examples.proofs.sound_examples.Names.{same_prop, same_col, props_decide, cols_decide}
use Rattle.worked_examples.proofs.sound_examples.Lists.{all, all_from, apart, not_among}
use Rattle.worked_examples.proofs.sound_examples.Tests.{all_true, each_true, all_pass, any_passes, is_among, is_new, are_new, among, not_in, all_new}
use Rattle.worked_examples.proofs.sound_examples.mappings.Mappings.{asked, compares_in_domain, is_pair, pair_told, IsHeld, held_fits, held_no_enum}

-- what a condition compares with lies in its domain, and it is on nothing that tells another entity
abbrev pub Compares : Schema → TableId → Cond → Type 0
Compares schema table cond = ComparesInDomain schema table cond × ComparesNoBarred schema table cond

-- pairs hold each part of one key with one of the other
module _ {X Y : Type 0} (same : X → X → Bool) (same_other : Y → Y → Bool) (of : Pair → X) (other_of : Pair → Y) where
  -- the pair is of this part, and of one of the other key
  abbrev writes : List Y → X → Pair → Bool
  writes others x pair = same (of pair) x && is_among same_other others (other_of pair)

  module _ (decides : (x z : X) → Decides (same x z) (x ≡ z)) (other_decides : (y z : Y) → Decides (same_other y z) (y ≡ z)) (pairs : List Pair) (others : List Y) where
    written : (x : X) (pair : Pair) → writes others x pair ≡ true → (of pair ≡ x) × Contains others (other_of pair)
    written x pair test =
        let parts = and_parts (same (of pair) x) (is_among same_other others (other_of pair)) test in
        ((decides (of pair) x).0 parts.0, among same_other other_decides others (other_of pair) parts.1)

    each_written : (xs : List X) → list_all (λ x. list_any (writes others x) pairs) xs ≡ true
        → All (λ x. Any (λ pair. (of pair ≡ x) × Contains others (other_of pair)) pairs) xs
    each_written xs tests = all_pass (λ x. Any (λ pair. (of pair ≡ x) × Contains others (other_of pair)) pairs) (λ x. list_any (writes others x) pairs)
        (λ x passed. any_passes (λ pair. (of pair ≡ x) × Contains others (other_of pair)) (writes others x) (written x) pairs passed) xs tests

module _ (schema : Schema) (fragment : Fragment) where
  -- the key of the fragment's set
  abbrev key_here : List PropId
  key_here = set_key schema.model fragment.set

  -- the key of its table
  abbrev key_there : List ColId
  key_there = key_columns schema.store fragment.table

  -- each picked type has the property
  abbrev IsShared : PropId → Type 0
  IsShared p = All (λ pick. Contains (props_of schema.model pick.ty) p) fragment.picks

  -- the test of this
  abbrev is_shared : PropId → Bool
  is_shared p = list_all (λ pick. is_among same_prop (props_of schema.model pick.ty) p) fragment.picks

  -- the pair is in range, and each picked type has its property
  abbrev may_write : Pair → Bool
  may_write pair = is_pair schema fragment.table pair && is_shared pair.prop

  -- what a condition is on is in range and no part of a key, and each picked type has it where it is a property
  abbrev may_ask : CondOn → Bool
  may_ask (on.Prop p) = all_true (ltb p.index (length schema.model.props) ∷ is_shared p ∷ is_new same_prop p key_here ∷ [])
  may_ask (on.Col c) = all_true (ltb c.index (length (columns_of schema.store fragment.table)) ∷ is_new same_col c key_there ∷ [])

  -- every id is in range, what is written and asked may be, both keys are written whole, and nothing is written twice
  abbrev fragment_tests : List Bool
  fragment_tests = ltb fragment.set.index (length schema.model.sets)
      ∷ ltb fragment.table.index (length schema.store.tables)
      ∷ list_all (λ pick. ltb pick.ty.index (length schema.model.types)) fragment.picks
      ∷ list_all may_write fragment.pairs
      ∷ list_all (λ cond. may_ask cond.on) fragment.conds
      ∷ list_all (λ p. list_any (writes same_prop same_col (λ pair. pair.prop) (λ pair. pair.col) key_there p) fragment.pairs) key_here
      ∷ list_all (λ c. list_any (writes same_col same_prop (λ pair. pair.col) (λ pair. pair.prop) key_here c) fragment.pairs) key_there
      ∷ are_new same_prop (map (λ pair. pair.prop) fragment.pairs)
      ∷ are_new same_col (map (λ pair. pair.col) fragment.pairs)
      ∷ []

  shared_told : (p : PropId) → is_shared p ≡ true → IsShared p
  shared_told p test = all_pass (λ pick. Contains (props_of schema.model pick.ty) p) (λ pick. is_among same_prop (props_of schema.model pick.ty) p)
      (λ pick passed. among same_prop props_decide (props_of schema.model pick.ty) p passed) fragment.picks test

  pair_facts : (pair : Pair) → may_write pair ≡ true → HasPairIds schema fragment.table pair × IsShared pair.prop
  pair_facts pair test =
      let parts = and_parts (is_pair schema fragment.table pair) (is_shared pair.prop) test in
      (pair_told schema fragment.table pair parts.0, shared_told pair.prop parts.1)

  -- what the test of a condition tells
  abbrev MayAsk : CondOn → Type 0
  MayAsk (on.Prop p) = IsCondId schema fragment.table (on.Prop p) × IsShared p × ¬ Contains key_here p
  MayAsk (on.Col c) = IsCondId schema fragment.table (on.Col c) × ¬ Contains key_there c

  ask_told : (what : CondOn) → may_ask what ≡ true → MayAsk what
  ask_told (on.Prop p) test =
      let told = each_true (ltb p.index (length schema.model.props) ∷ is_shared p ∷ is_new same_prop p key_here ∷ []) test in
      (ltb-true p.index (length schema.model.props) told.0, shared_told p told.1.0, not_in same_prop props_decide p key_here told.1.1.0)
  ask_told (on.Col c) test =
      let told = each_true (ltb c.index (length (columns_of schema.store fragment.table)) ∷ is_new same_col c key_there ∷ []) test in
      (ltb-true c.index (length (columns_of schema.store fragment.table)) told.0, not_in same_col cols_decide c key_there told.1.0)

  ask_id : (what : CondOn) → MayAsk what → IsCondId schema fragment.table what
  ask_id (on.Prop p) may = may.0
  ask_id (on.Col c) may = may.0

  shared_props : All (λ pair. IsShared pair.prop) fragment.pairs → All (λ cond. MayAsk cond.on) fragment.conds → NamesSharedProps schema fragment
  shared_props each each_cond p (inl some) = subst IsShared some.4 (All-contains (λ pair. IsShared pair.prop) fragment.pairs some.1 each (some.0, some.2, some.3))
  shared_props each each_cond p (inr some) = (asked MayAsk fragment.conds (on.Prop p) each_cond some).1

  -- what no test decides: what types are picked, kinds, and constants
  pub fragment_from : all_true fragment_tests ≡ true → AllByRecursion (λ pick. IsUnderElement schema.model fragment.set pick.ty) fragment.picks
      → AllByRecursion (IsHeld schema fragment.table) fragment.pairs → AllByRecursion (Compares schema fragment.table) fragment.conds → IsSoundFragment schema fragment
  fragment_from tests picks held compared =
      let told = each_true fragment_tests tests in
      let may_each : All (λ cond. MayAsk cond.on) fragment.conds
      = all_pass (λ cond. MayAsk cond.on) (λ cond. may_ask cond.on) (λ cond. ask_told cond.on) fragment.conds told.1.1.1.1.0 in
      record {
        ids = record {
          set = ltb-true fragment.set.index (length schema.model.sets) told.0;
          picks = all_pass (λ pick. IsTypeId schema.model pick.ty) (λ pick. ltb pick.ty.index (length schema.model.types))
              (λ pick. ltb-true pick.ty.index (length schema.model.types)) fragment.picks told.1.1.0;
          table = ltb-true fragment.table.index (length schema.store.tables) told.1.0;
          pairs = all_pass (HasPairIds schema fragment.table) may_write (λ pair test. (pair_facts pair test).0) fragment.pairs told.1.1.1.0;
          conds = all_pass (λ cond. IsCondId schema fragment.table cond.on) (λ cond. may_ask cond.on) (λ cond test. ask_id cond.on (ask_told cond.on test)) fragment.conds told.1.1.1.1.0;
        };
        picks = all (λ pick. IsUnderElement schema.model fragment.set pick.ty) fragment.picks picks;
        props = shared_props (all_pass (λ pair. IsShared pair.prop) may_write (λ pair test. (pair_facts pair test).1) fragment.pairs told.1.1.1.0) may_each;
        kinds = all_from (WritesToFitting schema fragment.table) (IsHeld schema fragment.table) fragment.pairs (held_fits schema fragment.table) held;
        key = record {
          props = each_written same_prop same_col (λ pair. pair.prop) (λ pair. pair.col) props_decide cols_decide fragment.pairs key_there key_here told.1.1.1.1.1.0;
          cols = each_written same_col same_prop (λ pair. pair.col) (λ pair. pair.prop) cols_decide props_decide fragment.pairs key_here key_there told.1.1.1.1.1.1.0;
        };
        constants = all_from (ComparesInDomain schema fragment.table) (Compares schema fragment.table) fragment.conds (λ cond facts. facts.0) compared;
        no_key_prop = λ p some. (asked MayAsk fragment.conds (on.Prop p) may_each some).2;
        no_key_column = λ c some. (asked MayAsk fragment.conds (on.Col c) may_each some).1;
        barred = all_from (ComparesNoBarred schema fragment.table) (Compares schema fragment.table) fragment.conds (λ cond facts. facts.1) compared;
        enums = all_from (WritesNoBarredEnum schema) (IsHeld schema fragment.table) fragment.pairs (held_no_enum schema fragment.table) held;
        once = record {
          props = apart (map (λ pair. pair.prop) fragment.pairs) (all_new same_prop props_decide (map (λ pair. pair.prop) fragment.pairs) told.1.1.1.1.1.1.1.0);
          cols = apart (map (λ pair. pair.col) fragment.pairs) (all_new same_col cols_decide (map (λ pair. pair.col) fragment.pairs) told.1.1.1.1.1.1.1.1.0);
        };
      }

-- where nothing is associated, nothing is barred
module _ (schema : Schema) (apart : schema.model.assocs ≡ []) (unlinked : schema.mapping.links ≡ []) where
  tells_none : (member : Member) → ¬ TellsOther schema member
  tells_none (prop p) tells = not_among [] tells.assoc tt (subst (λ assocs. Contains assocs tells.assoc) apart tells.is_assoc)
  tells_none (col t c) tells = not_among [] tells.fragment tt (subst (λ links. Contains links tells.fragment) unlinked tells.is_fragment)

  pub compares : (table : TableId) (what : CondOn) (constant : Value) (kind : Kind) → kind_of schema table what ≡ Some kind → InDomain constant kind → ¬ IsBinary kind
      → Compares schema table (record { on = what; test = Equals constant })
  compares table what constant kind is lies simple = (
    compares_in_domain schema table what constant kind is lies simple,
    (λ other same barred. tells_none barred.0 barred.1),
  )
