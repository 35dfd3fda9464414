-- Values of an entity of a region whose partners have numbered keys, and which of its values may be others.
-- Source: CSDL version 3, Property, Key and ReferentialConstraint; this project's regions.
use Rattle.std.specs.Prelude.{◌≡◌, ◌≢◌, ◌≤◌, ◌<◌, ℕ, Bool, Option, Some, Contains, not}
use Rattle.round_trip.specs.Words.{SetId, PropId, Value, Null, Kind, Prop, Assoc, At, key_props, props_of}
use Rattle.round_trip.specs.soundness.mappings.Joined.{IsDependent, prop}
use Rattle.condition_logic.specs.declared.atoms.Atom.{Atom}
use Rattle.regions.specs.declared.pattern.Symbol.TheVariants as symbol
use Rattle.regions.specs.declared.region.Region.{Region}
use Rattle.regions.specs.Atoms.{Allows, LiesIn, atom_at}
use Rattle.regions.specs.Basis.{Basis, Host, partner_end}
use Rattle.regions.specs.Patterns.{Valuation}
use Rattle.regions.specs.Regions.{regions_of}
use Rattle.regions.specs.Settled.{multi, possible}
use Rattle.regions.specs.region_laws.pattern.Allowed.{IsAllowed}
use Rattle.schema_laws.specs.short_values.Short.{IsShort}
use Rattle.schema_laws.specs.short_values.Fresh.{focus_key, fresh, fresh_at, most_indices, partner_key}
use Rattle.schema_laws.specs.short_values.Places.{place_in}

-- no value of the row of numbers, but for the first four of it
abbrev pub IsApart : ℕ → Value → Type 0
IsApart outer value = (k : Kind) (i : ℕ) → 4 ≤ i → i < most_indices → value ≢ fresh k outer i

-- the values are allowed, the parts of the entity's key are apart from the row of numbers, those of its partners' keys are values of it, and dependent
-- properties have short values
pub record IsAdmissible (basis : Basis) (outer : ℕ) (region : Region) (valuation : Valuation) : Type 0 where
  pub allowed : IsAllowed basis region valuation
  pub keys : (p : PropId) → Contains (key_props basis.schema.model region.ty) p → IsApart outer (valuation.prop p)
  pub partners : (host : Host) (assoc : Assoc) → Contains (basis.hosts region.set) host → Contains region.linked host.assoc
      → At basis.schema.model.assocs host.assoc.index assoc → (p : PropId) → Contains (key_props basis.schema.model (partner_end host.first_hosts assoc).ty) p
      → valuation.part host.assoc (not host.first_hosts) p
      ≡ fresh_at basis.schema.model outer p (partner_key host.assoc.index (place_in p (key_props basis.schema.model (partner_end host.first_hosts assoc).ty)))
  pub dependent : (p : PropId) → Contains (props_of basis.schema.model region.ty) p → IsDependent basis.schema.model p → valuation.prop p ≢ Null → IsShort (valuation.prop p)

-- the parts of the entity's key are the first values of the row of numbers
abbrev pub HasNumberedKey : Basis → ℕ → Region → Valuation → Type 0
HasNumberedKey basis outer region valuation = (p : PropId) → Contains (key_props basis.schema.model region.ty) p
    → valuation.prop p ≡ fresh_at basis.schema.model outer p (focus_key (place_in p (key_props basis.schema.model region.ty)))

-- an entity of the region may have this value of a property that is no part of its key, whatever its other values are
pub record IsChoice (basis : Basis) (region : Region) (p : PropId) (value : Value) : Type 0 where
  pub among : Contains (props_of basis.schema.model region.ty) p
  pub no_key : ¬ Contains (key_props basis.schema.model region.ty) p
  pub atom : (told : Atom) → atom_at region.atoms p ≡ Some told → LiesIn (basis.constants (prop p)) told value
  pub allowed : (declared : Prop) → At basis.schema.model.props p.index declared → Allows declared value
  pub dependent : IsDependent basis.schema.model p → value ≢ Null → IsShort value

-- each value that is told is such a choice
abbrev pub AreChoices : Basis → Region → (PropId → Option Value) → Type 0
AreChoices basis region changes = (p : PropId) (value : Value) → changes p ≡ Some value → IsChoice basis region p value

-- a property of the region's type that is no part of the key and may have several values, null among them or not
pub record HasSeveral (basis : Basis) (region : Region) (p : PropId) (declared : Prop) (nullable : Bool) : Type 0 where
  pub is_declared : At basis.schema.model.props p.index declared
  pub among : Contains (props_of basis.schema.model region.ty) p
  pub no_key : ¬ Contains (key_props basis.schema.model region.ty) p
  pub several : possible basis.schema.model region.atoms (symbol.Prop p) ≡ multi nullable

-- such a property of a region of a set
pub record SeveralOf (basis : Basis) : Type 0 where
  pub s : SetId
  pub region : Region
  pub listed : Contains (regions_of basis s) region
  pub p : PropId
  pub declared : Prop
  pub nullable : Bool
  pub several : HasSeveral basis region p declared nullable

-- two choices that differ, and of which none is null
pub record AreTwoChoices (basis : Basis) (region : Region) (p : PropId) (one two : Value) : Type 0 where
  pub one_choice : IsChoice basis region p one
  pub two_choice : IsChoice basis region p two
  pub one_there : one ≢ Null
  pub two_there : two ≢ Null
  pub different : one ≢ two

-- two valuations are those values but for the property, of which they have different values that aren't null
pub record DifferAt (values one two : Valuation) (p : PropId) : Type 0 where
  pub one_others : (q : PropId) → q ≢ p → one.prop q ≡ values.prop q
  pub two_others : (q : PropId) → q ≢ p → two.prop q ≡ values.prop q
  pub one_parts : one.part ≡ values.part
  pub two_parts : two.part ≡ values.part
  pub one_there : one.prop p ≢ Null
  pub two_there : two.prop p ≢ Null
  pub different : one.prop p ≢ two.prop p
