-- Keys that stand in a set, each with the number of its entity's type, and the keys that links have at an end, as lists beside one another.
-- Source: CSDL version 3, AssociationSet, End and Multiplicity.
use Rattle.std.specs.Prelude.{◌≡◌, ℕ, List, map, All, Any, Contains}
use Rattle.emc_base.specs.Lists.{AreApart}
use Rattle.edm_types.specs.Forest.{type_numbered}
use Rattle.edm_types.specs.declared.model.Mult.TheVariants.{One, ZeroOrOne, Many}
use Rattle.round_trip.specs.Words.{TypeId, Value, Assoc, EntityModel, IsA, Link, Mult}
use Rattle.state_legality.specs.declared.link_legality.side.Side.{Side}
use Rattle.state_legality.specs.declared.link_legality.side.Side.TheVariants.{First, Second}
use Rattle.state_legality.specs.link_legality.Sides.{key_at, partners_at}

-- the keys that links have at a side
abbrev pub keys_at : Side → List Link → List (List Value)
keys_at side links = map (λ link. key_at link side) links

-- no key stands twice, or the multiplicity allows any number of links
abbrev pub IsOnce : Mult → List (List Value) → Type 0
IsOnce One linked = AreApart linked
IsOnce ZeroOrOne linked = AreApart linked
IsOnce Many linked = Unit {0}

-- the key stands there with a type of which Fits holds
abbrev pub StandsWith : (TypeId → Type 0) → List (List Value × ℕ) → List Value → Type 0
StandsWith Fits standing key = Any (λ one. Fits (type_numbered one.1) × (one.0 ≡ key)) standing

-- each key that stands there with such a type is one that a link has, where the multiplicity asks for that
abbrev pub HasEach : Mult → (TypeId → Type 0) → List (List Value × ℕ) → List (List Value) → Type 0
HasEach One Fits standing linked = All (λ one. Fits (type_numbered one.1) → Contains linked one.0) standing
HasEach ZeroOrOne Fits standing linked = Unit {0}
HasEach Many Fits standing linked = Unit {0}

-- links have no more keys, and no fewer, than the multiplicity allows, and only such as stand there
pub record StandTogether (mult : Mult) (Fits : TypeId → Type 0) (standing : List (List Value × ℕ)) (linked : List (List Value)) : Type 0 where
  pub once : IsOnce mult linked
  pub held : All (StandsWith Fits standing) linked
  pub each : HasEach mult Fits standing linked

-- so at both ends of an association, and no link stands twice
pub record KeepInOrder (model : EntityModel) (assoc : Assoc) (first second : List (List Value × ℕ)) (links : List Link) : Type 0 where
  pub apart : AreApart links
  pub firsts : StandTogether (partners_at assoc First) (λ t. IsA model t assoc.first.ty) first (keys_at First links)
  pub seconds : StandTogether (partners_at assoc Second) (λ t. IsA model t assoc.second.ty) second (keys_at Second links)
