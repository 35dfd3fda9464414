-- Sound models, by tests and item by item.
use Rattle.std.proofs.Common.{◌≡◌, ◌≢◌, ℕ, ◌<◌, List, [], ◌∷◌, ◌++◌, map, length, refl, sym, ap, subst, arith}
use Rattle.std.specs.Prelude.{Bool, bytes_eq, not, true, false, Option, Some, None, MatchOption, option_map, slice_get, ⊤, Contains, All}
use Rattle.std.specs.List.{AllByRecursion, list_all}
use Rattle.std.specs.Option.{option_map_or}
use Rattle.std.proofs.Math.Dec.{ltb}
use Rattle.std.proofs.lemmas.Bool.{ltb-true, not-true}
use Rattle.std.proofs.lemmas.Bool.Decides.{not_from_Decides}
use Rattle.std.proofs.lemmas.Option.{MatchOption-at_some}
use Rattle.std.proofs.lemmas.Slice.Eq.{bytes_eq-Decides}
use Rattle.round_trip.specs.Words.{SetId, TypeId, PropId, EntityModel, EntityType, Prop, TypeNode, EntitySet, Assoc, End, IsA, props_of, key_props, Constraint, At, dependent_end, principal_end}
use Rattle.edm_types.specs.IsA.{same}
use Rattle.edm_types.specs.declared.model.TypeNode.{out-TypeNode}
use Rattle.worked_examples.specs.Ids.{type_id}
use Rattle.worked_examples.proofs.facts.Small.{EachAt, each_at, each_of, PairsByRecursion, all_pairs}
use Rattle.edm_types.specs.declared.model.Mult.TheVariants.{One, Many}
use Rattle.emc_base.specs.Lists.{HoldsEachOnce}
use Rattle.round_trip.specs.soundness.Kinds.{IsSoundKind, IsKeyKind, without_bound}
use Rattle.round_trip.specs.soundness.Lookups.{prop_kind, IsNeeded, IsElement, HasConcrete}
use Rattle.round_trip.specs.soundness.models.ModelIds.{IsTypeId, IsPropId, HasEndIds, HasModelIds}
use Rattle.round_trip.specs.soundness.models.ModelNames.{HasDistinctNames}
use Rattle.edm_types.specs.Forest.{node_type, nodes_below, types_based_on, root_types, IsForest}
use Rattle.round_trip.specs.soundness.models.Inheritance.{HasInheritedProps, declared_props, IsRootKey, IsKeyProp}
use Rattle.round_trip.specs.soundness.models.Constraints.{IsSoundEnd, IsSoundAssoc, DependsByKey, HasElementByKey, IsSoundConstraint, HasArrow, Leads, HasNoCircleOfArrows, arrow, further}
use Rattle.round_trip.specs.soundness.models.Models.{IsSoundType, IsSoundModel}
use Rattle.worked_examples.proofs.sound_examples.Lists.{all, all_all, all_from, apart, one_held}
use Rattle.worked_examples.proofs.sound_examples.Names.{names_apart, pairs_named, each_two_named, same_prop, props_decide}
use Rattle.worked_examples.proofs.sound_examples.Tests.{all_true, each_true, all_pass, passes_if_some, is_among, are_new, share_none, among, all_new, none_shared}
use Rattle.edm_types.proofs.Nodes.{each_node}
use Rattle.worked_examples.proofs.sound_examples.models.Above.{IsFlat, HasOtherNames, no_circle, members}

module _ (model : EntityModel) where
  -- the node, and whether its type is abstract
  abbrev pub IsNode : TypeNode → Type 0
  IsNode node = (map node_type (nodes_below node) ≡ types_based_on model (node_type node))
      × MatchOption (slice_get model.types (node_type node).index) ⊤ (λ type. (out-TypeNode node).is_abstract ≡ type.is_abstract)

  -- the id is that of a type
  abbrev is_type : TypeId → Bool
  is_type t = ltb t.index (length model.types)

  -- that of a property
  abbrev is_prop : PropId → Bool
  is_prop p = ltb p.index (length model.props)

  -- the sets and types of both ends are in range
  abbrev has_ends : Assoc → Bool
  has_ends assoc = all_true (
      ltb assoc.first.set.index (length model.sets) ∷ is_type assoc.first.ty ∷ ltb assoc.second.set.index (length model.sets) ∷ is_type assoc.second.ty ∷ [])

  -- so are the properties of a constraint
  abbrev has_props : Constraint → Bool
  has_props constraint = list_all is_prop (constraint.principal ++ constraint.dependent)

  -- every id is in range, those of the forest aside
  abbrev pub id_tests : List Bool
  id_tests = list_all (λ type. option_map_or is_type type.base true) model.types
      ∷ list_all (λ type. list_all is_prop type.key) model.types
      ∷ list_all (λ type. list_all is_prop type.props) model.types
      ∷ list_all (λ prop. is_type prop.owner) model.props
      ∷ list_all (λ set. is_type set.element) model.sets
      ∷ list_all has_ends model.assocs
      ∷ list_all (λ assoc. option_map_or has_props assoc.constraint true) model.assocs
      ∷ []

  -- these are the nodes of the forest
  pub record ForestFacts (nodes : List TypeNode) : Type 0 where
    pub roots : map node_type model.forest ≡ root_types model
    pub tops : AllByRecursion (Contains nodes) model.forest
    pub lower : AllByRecursion (λ node. AllByRecursion (Contains nodes) (nodes_below node)) nodes
    pub ids : AllByRecursion (λ node. IsTypeId model (node_type node)) nodes
    pub each : AllByRecursion IsNode nodes

  -- tests of names, those of members aside; no two association sets are of one association
  abbrev pub name_tests : List Bool
  name_tests = are_new bytes_eq (map (λ type. type.name) model.types)
      ∷ are_new bytes_eq (map (λ assoc. assoc.assoc_name) model.assocs)
      ∷ share_none bytes_eq (map (λ type. type.name) model.types) (map (λ assoc. assoc.assoc_name) model.assocs)
      ∷ are_new bytes_eq (map (λ set. set.name) model.sets ++ map (λ assoc. assoc.set_name) model.assocs)
      ∷ list_all (λ assoc. not (bytes_eq assoc.first.role assoc.second.role)) model.assocs
      ∷ []

  types_told : (t : TypeId) → is_type t ≡ true → IsTypeId model t
  types_told t test = ltb-true t.index (length model.types) test

  props_told : (p : PropId) → is_prop p ≡ true → IsPropId model p
  props_told p test = ltb-true p.index (length model.props) test

  ends_told : (assoc : Assoc) → has_ends assoc ≡ true → HasEndIds model assoc.first × HasEndIds model assoc.second
  ends_told assoc test =
      let told = each_true (ltb assoc.first.set.index (length model.sets) ∷ is_type assoc.first.ty ∷ ltb assoc.second.set.index (length model.sets) ∷ is_type assoc.second.ty ∷ []) test in (
        (ltb-true assoc.first.set.index (length model.sets) told.0, types_told assoc.first.ty told.1.0),
        (ltb-true assoc.second.set.index (length model.sets) told.1.1.0, types_told assoc.second.ty told.1.1.1.0),
      )

  ids_from : (nodes : List TypeNode) → all_true id_tests ≡ true → ForestFacts nodes → HasModelIds model
  ids_from nodes tests forest =
      let told = each_true id_tests tests in
      record {
        bases = all_pass (λ type. MatchOption type.base ⊤ (IsTypeId model)) (λ type. option_map_or is_type type.base true)
            (λ type test. passes_if_some (IsTypeId model) is_type types_told type.base test) model.types told.0;
        keys = all_pass (λ type. All (IsPropId model) type.key) (λ type. list_all is_prop type.key)
            (λ type test. all_pass (IsPropId model) is_prop props_told type.key test) model.types told.1.0;
        props = all_pass (λ type. All (IsPropId model) type.props) (λ type. list_all is_prop type.props)
            (λ type test. all_pass (IsPropId model) is_prop props_told type.props test) model.types told.1.1.0;
        owners = all_pass (λ prop. IsTypeId model prop.owner) (λ prop. is_type prop.owner) (λ prop test. types_told prop.owner test) model.props told.1.1.1.0;
        nodes = each_node (λ node. IsTypeId model (node_type node)) model.forest nodes forest.tops forest.lower forest.ids;
        elements = all_pass (λ set. IsTypeId model set.element) (λ set. is_type set.element) (λ set test. types_told set.element test) model.sets told.1.1.1.1.0;
        ends = all_pass (λ assoc. HasEndIds model assoc.first × HasEndIds model assoc.second) has_ends ends_told model.assocs told.1.1.1.1.1.0;
        constraints = all_pass (λ assoc. MatchOption assoc.constraint ⊤ (λ constraint. All (IsPropId model) (constraint.principal ++ constraint.dependent)))
            (λ assoc. option_map_or has_props assoc.constraint true)
            (λ assoc test. passes_if_some (λ constraint. All (IsPropId model) (constraint.principal ++ constraint.dependent)) has_props
            (λ constraint passed. all_pass (IsPropId model) is_prop props_told (constraint.principal ++ constraint.dependent) passed) assoc.constraint test)
            model.assocs told.1.1.1.1.1.1.0;
      }

  forest_from : (nodes : List TypeNode) → ForestFacts nodes → IsForest model model.forest
  forest_from nodes facts = record {
    roots = facts.roots;
    nodes = λ node stands.
        let is : IsNode node = each_node IsNode model.forest nodes facts.tops facts.lower facts.each node stands in
        record {
          children = is.0;
          flag = λ type at. MatchOption-at_some ⊤ (λ (entry : EntityType). (out-TypeNode node).is_abstract ≡ entry.is_abstract) type at is.1;
        };
  }

  names_from : IsFlat model → all_true name_tests ≡ true → EachAt (λ i type. HasOtherNames model (type_id i) type) model.types → HasDistinctNames model
  names_from flat tests others =
      let told = each_true name_tests tests in
      let R : List ℕ → List ℕ → Type 0 = λ name other. name ≢ other in
      let type_name : EntityType → List ℕ = λ type. type.name in
      let assoc_name : Assoc → List ℕ = λ assoc. assoc.assoc_name in
      let each : PairsByRecursion (λ assoc other. assoc_name assoc ≢ assoc_name other) model.assocs
      = pairs_named R assoc_name model.assocs (all_new bytes_eq bytes_eq-Decides (map assoc_name model.assocs) told.1.0) in
      record {
        types = names_apart (map type_name model.types) told.0;
        assocs = λ i j d below within same. absurd (all_pairs (λ assoc other. assoc_name assoc ≢ assoc_name other) model.assocs each i j d below within same);
        both = all_all (λ type assoc. R (type_name type) (assoc_name assoc)) (λ (type : EntityType). model.assocs) model.types
            (each_two_named R type_name assoc_name model.types model.assocs (none_shared bytes_eq bytes_eq-Decides (map type_name model.types) (map assoc_name model.assocs) told.1.1.0));
        sets = names_apart (map (λ set. set.name) model.sets ++ map (λ assoc. assoc.set_name) model.assocs) told.1.1.1.0;
        roles = all_pass (λ assoc. assoc.first.role ≢ assoc.second.role) (λ assoc. not (bytes_eq assoc.first.role assoc.second.role))
            (λ assoc test. not_from_Decides (bytes_eq assoc.first.role assoc.second.role) (bytes_eq-Decides assoc.first.role assoc.second.role)
            (not-true (bytes_eq assoc.first.role assoc.second.role) test)) model.assocs told.1.1.1.1.0;
        members = members model flat others;
      }

  -- one to four properties that the type declares, each once
  abbrev pub key_tests : TypeId → List PropId → List Bool
  key_tests t key = ltb 0 (length key) ∷ ltb (length key) 5 ∷ are_new same_prop key ∷ list_all (is_among same_prop (declared_props model t)) key ∷ []

  -- a property that a key may have
  abbrev pub IsPart : PropId → Type 0
  IsPart p = MatchOption (slice_get model.props p.index) ⊥ (λ prop. IsKeyKind prop.kind × (prop.nullable ≡ false))

  key_prop : (p : PropId) → IsPart p → IsKeyProp model p
  key_prop p part = by (slice_get model.props p.index) refl part
    where
      by : (found : Option Prop) → slice_get model.props p.index ≡ found → MatchOption found ⊥ (λ prop. IsKeyKind prop.kind × (prop.nullable ≡ false)) → IsKeyProp model p
      by None is none = absurd none
      by (Some prop) is is_part = record { declared = prop; is_declared = is; kind = is_part.0; needed = is_part.1 }

  root_key : (t : TypeId) (key : List PropId) → all_true (key_tests t key) ≡ true → IsRootKey model t key
  root_key t key tests =
      let told = each_true (key_tests t key) tests in
      let some : 0 < length key = ltb-true 0 (length key) told.0 in
      let few : length key < 5 = ltb-true (length key) 5 told.1.0 in
      record {
        some = λ empty. let none : length key ≡ 0 = ap length empty in absurd (omega arith);
        few = omega arith;
        once = apart key (all_new same_prop props_decide key told.1.1.0);
        own = all_pass (Contains (declared_props model t)) (is_among same_prop (declared_props model t)) (among same_prop props_decide (declared_props model t)) key told.1.1.1.0;
      }

  -- a type without a base
  pub root_type : (t : TypeId) (type : EntityType) → type.base ≡ None → HasInheritedProps model t type → all_true (key_tests t type.key) ≡ true
      → AllByRecursion IsPart type.key → IsSoundType model t type
  root_type t type root props tests parts = record {
    props = props;
    key = subst (λ base. MatchOption base (IsRootKey model t type.key) (λ above. type.key ≡ key_props model above)) (sym root) (root_key t type.key tests);
    key_props = all_from (IsKeyProp model) IsPart type.key key_prop parts;
  }

  -- an association set that depends by a key, none of whose dependent properties may be null, leads to an earlier set
  abbrev pub FallsBack : Assoc → Type 0
  FallsBack assoc = (constraint : Constraint) → assoc.constraint ≡ Some constraint → DependsByKey model assoc constraint → All (IsNeeded model) constraint.dependent
      → (principal_end assoc constraint).set.index < (dependent_end assoc constraint).set.index

  arrow_falls : AllByRecursion FallsBack model.assocs → {from to : SetId} → HasArrow model from to → to.index < from.index
  arrow_falls each {from} {to} has =
      let falls : (principal_end has.assoc has.constraint).set.index < (dependent_end has.assoc has.constraint).set.index
      = each_of FallsBack model.assocs has.assoc each has.is_assoc has.constraint has.constrained has.by_key has.needed in
      let P : SetId → Type 0 = λ s. s.index < from.index in
      let Q : SetId → Type 0 = λ s. (principal_end has.assoc has.constraint).set.index < s.index in
      subst P has.to_is (subst Q has.from_is falls)

  all_fall : AllByRecursion FallsBack model.assocs → {from to : SetId} → Leads model from to → to.index < from.index
  all_fall each (arrow from to has) = arrow_falls each has
  all_fall each (further from next to has rest) =
      let one : next.index < from.index = arrow_falls each has in
      let two : to.index < next.index = all_fall each rest in
      omega arith

  no_arrows_back : AllByRecursion FallsBack model.assocs → HasNoCircleOfArrows model
  no_arrows_back each set leads = let less : set.index < set.index = all_fall each leads in absurd (omega arith)

-- the end of a whole set, whose type may have entities of its own
pub end_of_set : (model : EntityModel) (end : End) (type : EntityType) (set : EntitySet) → At model.types end.ty.index type → type.is_abstract ≡ false
    → At model.sets end.set.index set → set.element ≡ end.ty → IsSoundEnd model end
end_of_set model end type set at_type concrete at_set element = record {
  concrete = (end.ty, (type, at_type, concrete), same end.ty);
  under = (set, at_set, subst (λ t. IsA model end.ty t) (sym element) (same end.ty));
}

-- each of any number of entities refers to exactly one other by one property
module _ (model : EntityModel) (assoc : Assoc) (p d : PropId) where
  abbrev refers : Constraint
  refers = record { dependent_first = false; principal = p ∷ []; dependent = d ∷ [] }

  pub many_to_one : assoc.first.mult ≡ One → assoc.second.mult ≡ Many → IsElement model assoc.first.set assoc.first.ty → key_props model assoc.first.ty ≡ p ∷ []
      → IsNeeded model d → is_among same_prop (props_of model assoc.second.ty) d ≡ true
      → option_map without_bound (prop_kind model p) ≡ option_map without_bound (prop_kind model d) → HasElementByKey model assoc refers → IsSoundConstraint model assoc refers
  many_to_one one many element key needed named kinds by_key = record {
    mults = record {
      principal = λ is. absurd (cc (is, one));
      one_principal = λ is. all (IsNeeded model) (d ∷ []) (needed, tt);
      dependent = λ is. absurd (cc (is, many));
      one_dependent = λ is. absurd (cc (is, many));
    };
    lists = record {
      element = element;
      principal = subst (λ these. HoldsEachOnce these (p ∷ [])) (sym key) (one_held p);
      dependent = all (Contains (props_of model assoc.second.ty)) (d ∷ []) (among same_prop props_decide (props_of model assoc.second.ty) d named, tt);
      once = apart (d ∷ []) (tt, tt);
      kinds = ap (λ kind. kind ∷ []) kinds;
    };
    element = by_key;
  }

-- a model in which no base type has a base, by the nodes of its forest
module _ (model : EntityModel) (nodes : List TypeNode) where
  pub record ModelFacts : Type 0 where
    pub forest : ForestFacts model nodes
    pub others : EachAt (λ i type. HasOtherNames model (type_id i) type) model.types
    pub types : EachAt (λ i type. IsSoundType model (type_id i) type) model.types
    pub kinds : AllByRecursion (λ prop. IsSoundKind prop.kind) model.props
    pub elements : AllByRecursion (λ set. HasConcrete model set.element) model.sets
    pub linked : AllByRecursion (IsSoundAssoc model) model.assocs
    pub falls : AllByRecursion (FallsBack model) model.assocs

  pub model_from : IsFlat model → all_true (all_true (id_tests model) ∷ all_true (name_tests model) ∷ []) ≡ true → ModelFacts → IsSoundModel model
  model_from flat tests facts =
      let told = each_true (all_true (id_tests model) ∷ all_true (name_tests model) ∷ []) tests in
      record {
        ids = ids_from model nodes told.0 facts.forest;
        names = names_from model flat told.1.0 facts.others;
        bases = no_circle model flat;
        types = λ t type at. each_at (λ i entry. IsSoundType model (type_id i) entry) model.types facts.types t.index type at;
        kinds = all (λ prop. IsSoundKind prop.kind) model.props facts.kinds;
        elements = all (λ set. HasConcrete model set.element) model.sets facts.elements;
        assocs = all (IsSoundAssoc model) model.assocs facts.linked;
        arrows = no_arrows_back model facts.falls;
        forest = forest_from model nodes facts.forest;
      }
