-- Which values an entity of a region may have, which the keys at the ends of links may have, and what the value of a symbol may then be.
-- Source: CSDL version 3, Property, Key and AssociationSet; this project's atoms and regions.
use Rattle.std.specs.Prelude.{◌≡◌, ◌≢◌, ◌==◌, List, [], find, slice_get, Contains, All, Bool, not, if◌then◌else◌, IsTrue}
use Rattle.std.specs.Option.{option_map_or}
use Rattle.edm_types.specs.declared.model.Mult.TheVariants.{Many}
use Rattle.round_trip.specs.Words.{SetId, PropId, AssocId, Value, Null, EntityModel, Prop, Assoc, End, Hosted, At, InDomain, props_of, key_props, value_beside}
use Rattle.round_trip.specs.soundness.mappings.Joined.{prop}
use Rattle.condition_logic.specs.declared.atoms.AtomOf.{AtomOf}
use Rattle.regions.specs.declared.region.Region.{Region}
use Rattle.regions.specs.declared.pattern.Focus.{Focus}
use Rattle.regions.specs.declared.pattern.Focus.TheVariants as focus
use Rattle.regions.specs.Atoms.{LiesIn, Allows}
use Rattle.regions.specs.Basis.{Basis, Host, partner_end}
use Rattle.regions.specs.Regions.{regions_of}
use Rattle.regions.specs.Patterns.{Valuation}
use Rattle.regions.specs.Settled.{Possible, single, multi}

-- the first end, or the second
abbrev pub end_at : Bool → Assoc → End
end_at first assoc = if first then assoc.first else assoc.second

-- each part of the key at an end is in the domain of its property, and so not null
abbrev pub HasAllowedParts : EntityModel → End → (PropId → Value) → Type 0
HasAllowedParts model end part = (p : PropId) (declared : Prop) → Contains (key_props model end.ty) p → At model.props p.index declared → InDomain (part p) declared.kind

-- the values are those that an entity of the region may have, and the keys of its partners: a tested value lies in its atom, each property allows
-- its value, and of each association of which a link is there the parts of the partner's key are in their domains
pub record IsAllowed (basis : Basis) (region : Region) (valuation : Valuation) : Type 0 where
  pub atoms : All (λ told. LiesIn (basis.constants (prop told.prop)) told.atom (valuation.prop told.prop)) region.atoms
  pub props : (p : PropId) (declared : Prop) → Contains (props_of basis.schema.model region.ty) p → At basis.schema.model.props p.index declared
      → Allows declared (valuation.prop p)
  pub parts : (host : Host) (assoc : Assoc) → Contains (basis.hosts region.set) host → Contains region.linked host.assoc → At basis.schema.model.assocs host.assoc.index assoc
      → HasAllowedParts basis.schema.model (partner_end host.first_hosts assoc) (valuation.part host.assoc (not host.first_hosts))

-- the same of a link: the parts of both keys are in their domains
pub record IsAllowedLink (basis : Basis) (a : AssocId) (valuation : Valuation) : Type 0 where
  pub parts : (assoc : Assoc) → At basis.schema.model.assocs a.index assoc → (first : Bool)
      → HasAllowedParts basis.schema.model (end_at first assoc) (valuation.part a first)

-- of whom a pattern may speak: a region of a set, or an association's link
abbrev pub IsFocus : Basis → Focus → Type 0
IsFocus basis (focus.Entity region) = (s : SetId) × Contains (regions_of basis s) region
IsFocus basis (focus.Link a) = (assoc : Assoc) × At basis.schema.model.assocs a.index assoc

-- the atoms that are told of it: none of a link
abbrev pub told_of : Focus → List AtomOf
told_of (focus.Entity region) = region.atoms
told_of (focus.Link a) = []

-- the values are allowed of it
abbrev pub AreAllowed : Basis → Focus → Valuation → Type 0
AreAllowed basis (focus.Entity region) valuation = IsAllowed basis region valuation
AreAllowed basis (focus.Link a) valuation = IsAllowedLink basis a valuation

-- a focus with values that are allowed of it
pub record AllowedFocus (basis : Basis) : Type 0 where
  pub of : Focus
  pub is_focus : IsFocus basis of
  pub values : Valuation
  pub allowed : AreAllowed basis of values

-- a region of a set, with values of its properties and of the parts of its partners' keys
pub record RegionValues (basis : Basis) : Type 0 where
  pub s : SetId
  pub region : Region
  pub listed : Contains (regions_of basis s) region
  pub values : Valuation

-- of each association of the region of which a link is there, these are the parts of the key of a partner, by one of the entity's links
pub record ArePartners (basis : Basis) (region : Region) (links : List Hosted) (part : AssocId → Bool → PropId → Value) : Type 0 where
  pub tells : (host : Host) (assoc : Assoc) → Contains (basis.hosts region.set) host → Contains region.linked host.assoc → At basis.schema.model.assocs host.assoc.index assoc
      → (hosted : Hosted) × Contains links hosted × (hosted.assoc ≡ host.assoc) × ((p : PropId) → Contains (key_props basis.schema.model (partner_end host.first_hosts assoc).ty) p
      → part host.assoc (not host.first_hosts) p ≡ value_beside p (key_props basis.schema.model (partner_end host.first_hosts assoc).ty) hosted.partner)

-- the value is one that is possible: the one value, or null only where null is among several
abbrev pub CanBe : Possible → Value → Type 0
CanBe (single one) value = value ≡ one
CanBe (multi nullable) value = value ≡ Null → IsTrue nullable

-- no partner's end of an association of the region of which a link is there is one of any number
abbrev pub HasFewPartners : Basis → Region → Type 0
HasFewPartners basis region = (host : Host) (assoc : Assoc) → Contains (basis.hosts region.set) host → Contains region.linked host.assoc
    → At basis.schema.model.assocs host.assoc.index assoc → (partner_end host.first_hosts assoc).mult ≢ Many

-- the parts of the partner's key of the first link of each association
abbrev pub partner_parts : EntityModel → List Hosted → AssocId → Bool → PropId → Value
partner_parts model links a first p = option_map_or (λ hosted. option_map_or (λ assoc. value_beside p (key_props model (end_at first assoc).ty) hosted.partner)
    (slice_get model.assocs a.index) Null) (find (λ hosted. hosted.assoc.index == a.index) links) Null
