-- V6, V11: names that share a scope are different.
-- Source: CSDL version 3, the names of Schema, EntityContainer, EntityType and Association.
use Rattle.std.specs.Prelude.{◌≡◌, ◌≢◌, ◌==◌, ℕ, List, ◌++◌, map, filter, All, AllPairs, Contains}
use Rattle.round_trip.specs.Words.{TypeId, EntityModel, EntityType, Assoc, End, At}
use Rattle.emc_base.specs.Lists.{AreApart}
use Rattle.round_trip.specs.soundness.Lookups.{IsAncestor}

-- one end of one association: the same role, type and multiplicity. The sets may differ.
pub record IsOneEnd (end other : End) : Type 0 where
  pub role : end.role ≡ other.role
  pub type : end.ty ≡ other.ty
  pub mult : end.mult ≡ other.mult

-- two association sets are of one association
pub record IsOneAssociation (assoc other : Assoc) : Type 0 where
  pub first : IsOneEnd assoc.first other.first
  pub second : IsOneEnd assoc.second other.second
  pub constraint : assoc.constraint ≡ other.constraint

-- the names of the properties that a type declares and of its navigation properties
abbrev pub own_names : EntityModel → TypeId → EntityType → List (List ℕ)
own_names model t type = map (λ prop. prop.name) (filter (λ prop. prop.owner.index == t.index) model.props) ++ map (λ nav. nav.name) type.navs

-- V6: a type's members have different names. V11: none has the name of an inherited one.
pub record HasDistinctMembers (model : EntityModel) (t : TypeId) (type : EntityType) : Type 0 where
  pub own : AreApart (own_names model t type)
  pub inherited : (u : TypeId) (ancestor : EntityType) → IsAncestor model u t → At model.types u.index ancestor
      → All (λ name. ¬ Contains (own_names model u ancestor) name) (own_names model t type)

-- V6: types and associations together, sets and association sets together, and the roles of an association. An association that several
-- association sets name counts once: what has its name is this association. V6 and V11: the members of each type.
pub record HasDistinctNames (model : EntityModel) : Type 0 where
  pub types : AreApart (map (λ type. type.name) model.types)
  pub assocs : AllPairs (λ assoc other. assoc.assoc_name ≡ other.assoc_name → IsOneAssociation assoc other) model.assocs
  pub both : All (λ type. All (λ assoc. type.name ≢ assoc.assoc_name) model.assocs) model.types
  pub sets : AreApart (map (λ set. set.name) model.sets ++ map (λ assoc. assoc.set_name) model.assocs)
  pub roles : All (λ assoc. assoc.first.role ≢ assoc.second.role) model.assocs
  pub members : (t : TypeId) (type : EntityType) → At model.types t.index type → HasDistinctMembers model t type
