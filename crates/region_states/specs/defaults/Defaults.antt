-- The values that an entity of a region has where nothing else is said, and values that are changed.
-- Source: this project's choice of the values in the states that it shows.
use Rattle.std.specs.Prelude.{◌==◌, ℕ, slice_get, unwrap_or, Option, Some, None, Bool, if◌then◌else◌}
use Rattle.std.specs.Option.{option_map_or}
use Rattle.round_trip.specs.Words.{PropId, TypeId, AssocId, Value, Null, Prop, key_props, props_of}
use Rattle.round_trip.specs.soundness.mappings.Joined.{prop}
use Rattle.condition_logic.specs.declared.atoms.Atom.{Atom}
use Rattle.condition_logic.specs.declared.atoms.Atom.TheVariants as atom
use Rattle.regions.specs.declared.region.Region.{Region}
use Rattle.regions.specs.Atoms.{atom_at}
use Rattle.regions.specs.Basis.{Basis}
use Rattle.regions.specs.Patterns.{Valuation}
use Rattle.regions.specs.region_laws.pattern.Allowed.{end_at}
use Rattle.region_states.specs.defaults.Candidates.{first_free, next_free}
use Rattle.schema_laws.specs.short_values.Fresh.{dependent_value, focus_key, fresh, fresh_at, lost_value, partner_key}
use Rattle.schema_laws.specs.short_values.Places.{is_among, is_dependent, place_in}

-- a value that isn't null and no constant: of a dependent property one of the row of numbers by its place, else the first free one
abbrev pub some_value : Basis → ℕ → TypeId → PropId → Prop → Value
some_value basis outer t p declared =
    if is_dependent basis.schema.model p then fresh declared.kind outer (dependent_value (place_in p (props_of basis.schema.model t)))
    else first_free declared.kind (basis.constants (prop p))

-- a value that isn't null of a property that may have several
abbrev pub one_value : Basis → PropId → Prop → Value
one_value basis p declared = if is_dependent basis.schema.model p then fresh declared.kind 0 (lost_value 0) else first_free declared.kind (basis.constants (prop p))

-- another one
abbrev pub other_value : Basis → PropId → Prop → Value
other_value basis p declared = if is_dependent basis.schema.model p then fresh declared.kind 0 (lost_value 1) else next_free declared.kind (basis.constants (prop p))

-- the value that the atom tells; where none is told, null if it may be
abbrev pub value_by : Basis → ℕ → TypeId → PropId → Prop → Option Atom → Value
value_by basis outer t p declared (Some atom.Null) = Null
value_by basis outer t p declared (Some (atom.Is one)) = one
value_by basis outer t p declared (Some atom.Other) = some_value basis outer t p declared
value_by basis outer t p declared None = if declared.nullable then Null else some_value basis outer t p declared

-- the value of a part of the key, or of another property
abbrev pub declared_value : Basis → ℕ → Region → PropId → Prop → Value
declared_value basis outer region p declared =
    if is_among p (key_props basis.schema.model region.ty) then fresh declared.kind outer (focus_key (place_in p (key_props basis.schema.model region.ty)))
    else value_by basis outer region.ty p declared (atom_at region.atoms p)

-- the same, by the property alone
abbrev pub default_value : Basis → ℕ → Region → PropId → Value
default_value basis outer region p = option_map_or (declared_value basis outer region p) (slice_get basis.schema.model.props p.index) Null

-- a part of the key of the partner by an association, at its first end or at its second
abbrev pub default_part : Basis → ℕ → AssocId → Bool → PropId → Value
default_part basis outer a first p = option_map_or
    (λ assoc. fresh_at basis.schema.model outer p (partner_key a.index (place_in p (key_props basis.schema.model (end_at first assoc).ty))))
    (slice_get basis.schema.model.assocs a.index) Null

-- these values, with numbers of this row
abbrev pub default_valuation : Basis → ℕ → Region → Valuation
default_valuation basis outer region = record { prop = default_value basis outer region; part = default_part basis outer }

-- the same, but for the properties for which another value is told
abbrev pub changed : Valuation → (PropId → Option Value) → Valuation
changed valuation changes = record { prop = λ p. unwrap_or (changes p) (valuation.prop p); part = valuation.part }

-- this value of one property alone
abbrev pub alone : PropId → Value → PropId → Option Value
alone p value q = if q.index == p.index then Some value else None
