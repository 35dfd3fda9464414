-- Associations: their ends, multiplicities and constraints.
-- Source: CSDL version 3, Association, End, Multiplicity, ReferentialConstraint and AssociationSet. Which multiplicities and constraints
-- are allowed is the profile's choice.
use Rattle.std.specs.Prelude.{◌≡◌, ◌≢◌, map, option_map, All, Any, Contains, Some, MatchOption}
use Rattle.round_trip.specs.Words.{SetId, EntityModel, Assoc, End, Constraint, props_of, key_props, dependent_end, principal_end}
use Rattle.edm_types.specs.declared.model.Mult.TheVariants.{One, ZeroOrOne, Many}
use Rattle.emc_base.specs.Lists.{AreApart, HoldsEachOnce}
use Rattle.round_trip.specs.soundness.Kinds.{without_bound}
use Rattle.round_trip.specs.soundness.Lookups.{prop_kind, IsNeeded, IsElement, IsUnderElement, HasConcrete}

-- V14: there may be entities at the end. V20: their type is the element type of the end's set, or derived from it.
pub record IsSoundEnd (model : EntityModel) (end : End) : Type 0 where
  pub concrete : HasConcrete model end.ty
  pub under : IsUnderElement model end.set end.ty

-- V16, without a constraint: exactly one stands only opposite any number
pub record HasIndependentMults (assoc : Assoc) : Type 0 where
  pub first : assoc.first.mult ≡ One → assoc.second.mult ≡ Many
  pub second : assoc.second.mult ≡ One → assoc.first.mult ≡ Many

module _ (model : EntityModel) (assoc : Assoc) (constraint : Constraint) where
  -- V16, with a constraint: at most one principal, and exactly one only where no dependent property may be null; any number of
  -- dependents, or at most one where the dependent properties are their whole key
  pub record HasConstraintMults : Type 0 where
    pub principal : (principal_end assoc constraint).mult ≢ Many
    pub one_principal : (principal_end assoc constraint).mult ≡ One → All (IsNeeded model) constraint.dependent
    pub dependent : (dependent_end assoc constraint).mult ≢ One
    pub one_dependent : (dependent_end assoc constraint).mult ≡ ZeroOrOne → HoldsEachOnce (key_props model (dependent_end assoc constraint).ty) constraint.dependent

  -- V17: the principal list is the whole key of the principal type, which is its set's element type. The dependent list names
  -- properties of the dependent type, none twice. The two match item by item in kind, bounds aside.
  pub record HasMatchedLists : Type 0 where
    pub element : IsElement model (principal_end assoc constraint).set (principal_end assoc constraint).ty
    pub principal : HoldsEachOnce (key_props model (principal_end assoc constraint).ty) constraint.principal
    pub dependent : All (Contains (props_of model (dependent_end assoc constraint).ty)) constraint.dependent
    pub once : AreApart constraint.dependent
    pub kinds : map (λ prop. option_map without_bound (prop_kind model prop)) constraint.principal
        ≡ map (λ prop. option_map without_bound (prop_kind model prop)) constraint.dependent

  -- a property of the dependent type's key is among the dependent ones
  abbrev pub DependsByKey : Type 0
  DependsByKey = Any (Contains (key_props model (dependent_end assoc constraint).ty)) constraint.dependent

  -- V18: then the dependent type is its set's element type
  abbrev pub HasElementByKey : Type 0
  HasElementByKey = DependsByKey → IsElement model (dependent_end assoc constraint).set (dependent_end assoc constraint).ty

  -- V16 to V18
  pub record IsSoundConstraint : Type 0 where
    pub mults : HasConstraintMults
    pub lists : HasMatchedLists
    pub element : HasElementByKey

-- an association set that leads from its dependent set to its principal set: a property of the dependent's key is among the
-- dependent ones, and none of these may be null
pub record HasArrow (model : EntityModel) (from to : SetId) : Type 0 where
  pub assoc : Assoc
  pub constraint : Constraint
  pub is_assoc : Contains model.assocs assoc
  pub constrained : assoc.constraint ≡ Some constraint
  pub by_key : DependsByKey model assoc constraint
  pub needed : All (IsNeeded model) constraint.dependent
  pub from_is : (dependent_end assoc constraint).set ≡ from
  pub to_is : (principal_end assoc constraint).set ≡ to

-- arrows lead from one set to the other
pub data Leads (model : EntityModel) : SetId → SetId → Type 0 where
  arrow : (from to : SetId) → HasArrow model from to → Leads model from to
  further : (from next to : SetId) → HasArrow model from next → Leads model next to → Leads model from to

-- V19: no arrows lead back to where they begin
abbrev pub HasNoCircleOfArrows : EntityModel → Type 0
HasNoCircleOfArrows model = (set : SetId) → ¬ Leads model set set

-- V14, V16 to V18, V20
pub record IsSoundAssoc (model : EntityModel) (assoc : Assoc) : Type 0 where
  pub first : IsSoundEnd model assoc.first
  pub second : IsSoundEnd model assoc.second
  pub kind : MatchOption assoc.constraint (HasIndependentMults assoc) (IsSoundConstraint model assoc)
