-- V14: there may be entities in each set, and at each end.
-- Source: CSDL version 3, EntityType, Abstract, BaseType, EntitySet, Association and End.
use Rattle.std.specs.Prelude.{◌≡◌, ℕ, [], ◌∷◌, Option, false, codes, MatchOption}
use Rattle.emc_base.specs.Lists.{At}
use Rattle.json_form.specs.declared.pointer.Step.TheVariants.{Member}
use Rattle.layouts.specs.declared.fault.Fault.{Fault}
use Rattle.layouts.specs.declared.rule.Rule.TheVariants.{ConcreteType}
use Rattle.layouts.specs.rule_places.Places.{IsAt, InList}
use Rattle.graphs.specs.base_chains.Chains.{IsUpFrom}
use Rattle.csdl_names.specs.declared.csdl_lists.raw.RawAssociation.{RawAssociation}
use Rattle.csdl_names.specs.declared.csdl_lists.raw.RawEnd.{RawEnd}
use Rattle.csdl_names.specs.declared.csdl_lists.raw.RawModel.{RawModel}
use Rattle.csdl_names.specs.declared.csdl_lists.raw.RawSet.{RawSet}
use Rattle.csdl_names.specs.declared.csdl_lists.raw.RawType.{RawType}
use Rattle.csdl_names.specs.csdl_lists.References.{Names, base_of}
use Rattle.csdl_associations.specs.csdl_constraints.Sides.{IsNamed}

module _ (names : Names) (model : RawModel) where
  -- the type at a place isn't abstract
  abbrev pub IsConcrete : ℕ → Type 0
  IsConcrete i = (type : RawType) × At model.types i type × (type.is_abstract ≡ false)

  -- some type at or below this one isn't
  abbrev pub HasConcrete : ℕ → Type 0
  HasConcrete i = (j : ℕ) × IsConcrete j × IsUpFrom (base_of names model) j i

  -- a type is found, and all at or below it are abstract
  abbrev pub LacksConcrete : Option ℕ → Type 0
  LacksConcrete found = MatchOption found ⊥ (λ i. ¬ HasConcrete i)

  -- the element type of an entity set
  abbrev pub IsElementFault : ℕ → RawSet → Fault → Type 0
  IsElementFault i set fault = LacksConcrete (names.type_named set.element) × IsAt ConcreteType (Member (codes "EntityType") ∷ []) fault

  -- the type of an end
  abbrev pub IsEndTypeFault : ℕ → RawEnd → Fault → Type 0
  IsEndTypeFault k end fault = LacksConcrete (names.type_named end.ty) × IsAt ConcreteType (Member (codes "Type") ∷ []) fault

  -- the ends of an association that some association set names
  abbrev pub IsEndsFault : ℕ → RawAssociation → Fault → Type 0
  IsEndsFault a association fault = IsNamed names model a × InList (codes "End") IsEndTypeFault association.ends fault
