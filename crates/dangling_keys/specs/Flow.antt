-- Symbols that stand for parts of keys: each has a number of its own, and so a value of its own in the states that are shown.
-- Source: this project's choice of the values in the states that it shows; CSDL version 3, Key and ReferentialConstraint.
use Rattle.std.specs.Prelude.{◌≡◌, ◌⊎◌, ℕ, Contains, Bool, true, false, not}
use Rattle.round_trip.specs.Words.{AssocId, PropId, Assoc, At, key_props, props_of}
use Rattle.round_trip.specs.soundness.mappings.Joined.{IsDependent}
use Rattle.schema_laws.specs.short_values.Fresh.{dependent_value, first_end_key, focus_key, partner_key, second_end_key}
use Rattle.schema_laws.specs.short_values.Places.{place_in}
use Rattle.regions.specs.Basis.{Basis, Host}
use Rattle.regions.specs.declared.pattern.Focus.{Focus}
use Rattle.regions.specs.declared.pattern.Focus.TheVariants as focus
use Rattle.regions.specs.declared.pattern.Symbol.{Symbol}
use Rattle.regions.specs.declared.pattern.Symbol.TheVariants as symbol
use Rattle.regions.specs.declared.region.Region.{Region}
use Rattle.regions.specs.region_laws.pattern.Allowed.{end_at}

-- the number of a part of the key at an end of a link
abbrev pub end_part : Bool → ℕ → ℕ
end_part true place = first_end_key place
end_part false place = second_end_key place

module _ (basis : Basis) where
  -- a dependent property of the region's type that is no part of its key
  pub record IsOwnDependent (region : Region) (p : PropId) : Type 0 where
    pub among : Contains (props_of basis.schema.model region.ty) p
    pub no_key : ¬ Contains (key_props basis.schema.model region.ty) p
    pub dependent : IsDependent basis.schema.model p

  -- a part of the key of the partner by a flag of the region
  pub record IsPartnerPart (region : Region) (a : AssocId) (first : Bool) (p : PropId) : Type 0 where
    pub host : Host
    pub hosts : Contains (basis.hosts region.set) host
    pub of_assoc : host.assoc ≡ a
    pub linked : Contains region.linked a
    pub at_far : first ≡ not host.first_hosts
    pub assoc : Assoc
    pub is_assoc : At basis.schema.model.assocs a.index assoc
    pub part : Contains (key_props basis.schema.model (end_at first assoc).ty) p

  -- a part of the key at an end of a link of the association
  pub record IsLinkPart (a b : AssocId) (first : Bool) (p : PropId) : Type 0 where
    pub of_assoc : b ≡ a
    pub assoc : Assoc
    pub is_assoc : At basis.schema.model.assocs b.index assoc
    pub part : Contains (key_props basis.schema.model (end_at first assoc).ty) p

  -- the symbol stands for a part of a key: of an entity of the region's own, of one that it refers to, or of a partner's; or of the keys at the ends of the link
  abbrev pub IsFlow : Focus → Symbol → ℕ → Type 0
  IsFlow (focus.Entity region) (symbol.Prop p) i =
      (Contains (key_props basis.schema.model region.ty) p × (i ≡ focus_key (place_in p (key_props basis.schema.model region.ty))))
      ⊎ (IsOwnDependent region p × (i ≡ dependent_value (place_in p (props_of basis.schema.model region.ty))))
  IsFlow (focus.Entity region) (symbol.End a first p) i =
      (by : IsPartnerPart region a first p) × (i ≡ partner_key a.index (place_in p (key_props basis.schema.model (end_at first by.assoc).ty)))
  IsFlow (focus.Link a) (symbol.End b first p) i =
      (by : IsLinkPart a b first p) × (i ≡ end_part first (place_in p (key_props basis.schema.model (end_at first by.assoc).ty)))
  IsFlow of one i = ⊥
