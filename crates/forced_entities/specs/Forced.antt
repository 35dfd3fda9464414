-- The entities that each legal state holds beside an entity of a region, or beside a link: told by symbols, as far as their keys are known.
-- Source: CSDL version 3, ReferentialConstraint, AssociationSet and End.
use Rattle.std.specs.Prelude.{◌≡◌, ◌⊎◌, ◌↔◌, ◌==◌, List, [], ◌∷◌, map, All, Contains, Bool, Option, None, Some, not, if◌then◌else◌}
use Rattle.emc_base.specs.Lists.{AreApart}
use Rattle.round_trip.specs.Words.{SetId, TypeId, PropId, AssocId, Null, Assoc, Constraint, At, IsA, dependent_end, key_props, principal_end}
use Rattle.round_trip.specs.soundness.Lookups.{IsNeeded}
use Rattle.round_trip.specs.soundness.models.Constraints.{DependsByKey}
use Rattle.round_trip.specs.soundness.mappings.Joined.{prop}
use Rattle.condition_logic.specs.declared.atoms.AtomOf.{AtomOf}
use Rattle.regions.specs.Atoms.{LiesIn}
use Rattle.regions.specs.Basis.{Basis, Host, partner_end}
use Rattle.regions.specs.declared.pattern.Focus.{Focus}
use Rattle.regions.specs.declared.pattern.Focus.TheVariants as focus
use Rattle.regions.specs.declared.pattern.Symbol.{Symbol}
use Rattle.regions.specs.declared.pattern.Symbol.TheVariants as symbol
use Rattle.regions.specs.declared.region.Region.{Region}
use Rattle.regions.specs.region_laws.pattern.Allowed.{end_at}
use Rattle.forced_entities.specs.declared.member.Forced.{Forced}

-- what is told beside a property: nothing where it isn't one of these
abbrev pub part_beside : PropId → List PropId → List (Option Symbol) → Option Symbol
part_beside p [] parts = None
part_beside p (q ∷ props) [] = None
part_beside p (q ∷ props) (part ∷ parts) = if q.index == p.index then part else part_beside p props parts

module _ (basis : Basis) where
  -- an entity at or below a type, of whose key's parts this is told; nothing of a part that is unknown
  abbrev pub forced_at : SetId → TypeId → (PropId → Option Symbol) → Forced
  forced_at u t part = record { set = u; ty = t; key = map part (key_props basis.schema.model t) }

  -- what is told of a property of an entity: of a part of its key what the key tells, and nothing of another
  abbrev pub part_in : Forced → PropId → Option Symbol
  part_in one p = part_beside p (key_props basis.schema.model one.ty) one.key

  -- the principal by a constraint, where this is told of the dependent entity's properties: of a part of its key what is told of the dependent property
  -- that stands beside it
  abbrev pub principal_of : Assoc → Constraint → (PropId → Option Symbol) → Forced
  principal_of assoc constraint told = forced_at (principal_end assoc constraint).set (principal_end assoc constraint).ty
      (λ p. part_beside p constraint.principal (map told constraint.dependent))

  -- the principal by the constraint of an association, which covers the type and asks for it
  pub record IsAskedBy (Asks : Assoc → Constraint → Type 0) (u : SetId) (t : TypeId) (told : PropId → Option Symbol) (assoc : Assoc) (to : Forced) : Type 0 where
    pub constraint : Constraint
    pub constrained : assoc.constraint ≡ Some constraint
    pub at_end : (dependent_end assoc constraint).set ≡ u
    pub covers : IsA basis.schema.model t (dependent_end assoc constraint).ty
    pub asks : Asks assoc constraint
    pub is : to ≡ principal_of assoc constraint told

  -- by that of one of the model's associations
  pub record IsAskedFrom (Asks : Assoc → Constraint → Type 0) (u : SetId) (t : TypeId) (told : PropId → Option Symbol) (to : Forced) : Type 0 where
    pub assoc : Assoc
    pub is_assoc : Contains basis.schema.model.assocs assoc
    pub by : IsAskedBy Asks u t told assoc to

  -- a constraint by which each entity has a principal, whose dependent list has a part of its key
  abbrev pub IsArrow : Assoc → Constraint → Type 0
  IsArrow assoc constraint = DependsByKey basis.schema.model assoc constraint × All (IsNeeded basis.schema.model) constraint.dependent

  -- an entity that is forced has this principal
  abbrev pub LeadsTo : Forced → Forced → Type 0
  LeadsTo from to = IsAskedFrom IsArrow from.set from.ty (part_in from) to

  -- the property has an atom in which null doesn't lie
  pub record HasValueAtom (region : Region) (p : PropId) : Type 0 where
    pub told : AtomOf
    pub is_told : Contains region.atoms told
    pub of : told.prop ≡ p
    pub some : ¬ LiesIn (basis.constants (prop p)) told.atom Null

  -- the property isn't null in an entity of the region in which none of these is
  abbrev pub IsKnown : Region → List PropId → PropId → Type 0
  IsKnown region not_null p = Contains (key_props basis.schema.model region.ty) p ⊎ IsNeeded basis.schema.model p ⊎ HasValueAtom region p ⊎ Contains not_null p

  -- the partner by a flag of the region
  pub record IsPartner (region : Region) (to : Forced) : Type 0 where
    pub host : Host
    pub hosts : Contains (basis.hosts region.set) host
    pub linked : Contains region.linked host.assoc
    pub assoc : Assoc
    pub is_assoc : At basis.schema.model.assocs host.assoc.index assoc
    pub is : to ≡ forced_at (partner_end host.first_hosts assoc).set (partner_end host.first_hosts assoc).ty (λ p. Some (symbol.End host.assoc (not host.first_hosts) p))

  -- an end of a link
  pub record IsLinkEnd (a : AssocId) (to : Forced) : Type 0 where
    pub assoc : Assoc
    pub is_assoc : At basis.schema.model.assocs a.index assoc
    pub first : Bool
    pub is : to ≡ forced_at (end_at first assoc).set (end_at first assoc).ty (λ p. Some (symbol.End a first p))

  -- what the focus forces by itself: an entity its partners, and its principals by constraints of which no dependent property can be null; a link its ends
  abbrev pub IsBegun : Focus → List PropId → Forced → Type 0
  IsBegun (focus.Entity region) not_null to =
      IsPartner region to ⊎ IsAskedFrom (λ _ constraint. All (IsKnown region not_null) constraint.dependent) region.set region.ty (λ p. Some (symbol.Prop p)) to
  IsBegun (focus.Link a) not_null to = IsLinkEnd a to

  -- what is forced: this, and what it leads to
  pub data IsForced (of : Focus) (not_null : List PropId) : Forced → Type 0 where
    begins : (to : Forced) → IsBegun of not_null to → IsForced of not_null to
    leads : (from to : Forced) → IsForced of not_null from → LeadsTo from to → IsForced of not_null to

  -- the list has each of these once, and nothing else
  pub record AreForced (of : Focus) (not_null : List PropId) (list : List Forced) : Type 0 where
    pub listed : (one : Forced) → Contains list one ↔ IsForced of not_null one
    pub once : AreApart list

-- the entity of the region itself, by its own properties
abbrev pub own_member : Basis → Region → Forced
own_member basis region = forced_at basis region.set region.ty (λ p. Some (symbol.Prop p))
