-- The types of the entities of a key, as changes alter them.
-- Source: this project's.
use Rattle.std.specs.Prelude.{◌≡◌, ◌≢◌, ◌==◌, List, Contains, Option, None, Some, IsSome, cond, if◌then◌else◌}
use Rattle.std.specs.BTreeMap.{BTreeMap, get}
use Rattle.round_trip.specs.Words.{TypeId, Value, EntityModel, Entity, key_of}
use Rattle.entity_changes.specs.declared.making.types.Types.{Types}
use Rattle.entity_changes.specs.declared.making.types.Types.TheVariants.{One, Several}
use Rattle.entity_changes.specs.declared.change.Reason.{Reason}
use Rattle.entity_changes.specs.declared.change.Reason.TheVariants as reason
use Rattle.entity_changes.specs.Spots.{Spot, same_spot, spot_cmp}

-- what is known of types when there is one more
abbrev pub joined : Option Types → TypeId → Types
joined None ty = One ty
joined (Some (One old)) ty = if old.index == ty.index then One ty else Several
joined (Some Several) ty = Several

-- what is known at a spot is joined with a type
abbrev pub AddsType : Spot → TypeId → BTreeMap Spot Types → BTreeMap Spot Types → Type 0
AddsType spot ty old new = (q : Spot) → get spot_cmp new q ≡ cond (same_spot spot q) (Some (joined (get spot_cmp old spot) ty)) (get spot_cmp old q)

-- an entity of a type comes, unless something is known at its spot
abbrev pub InsertsTypes : Spot → TypeId → BTreeMap Spot Types → BTreeMap Spot Types → Option Reason → Type 0
InsertsTypes spot ty old new None = (get spot_cmp old spot ≡ None)
    × ((q : Spot) → get spot_cmp new q ≡ cond (same_spot spot q) (Some (One ty)) (get spot_cmp old q))
InsertsTypes spot ty old new (Some why) = IsSome (get spot_cmp old spot) × (why ≡ reason.Exists)

-- why no entity of this type can take the place of what is known
abbrev pub update_reason : Option Types → TypeId → Option Reason
update_reason None ty = Some reason.Absent
update_reason (Some (One old)) ty = if old.index == ty.index then None else Some reason.TypeChanged
update_reason (Some Several) ty = Some reason.TypeChanged

-- what is known at a spot goes, unless there is nothing
abbrev pub DeletesTypes : Spot → BTreeMap Spot Types → BTreeMap Spot Types → Option Reason → Type 0
DeletesTypes spot old new None = IsSome (get spot_cmp old spot) × ((q : Spot) → get spot_cmp new q ≡ cond (same_spot spot q) None (get spot_cmp old q))
DeletesTypes spot old new (Some why) = (get spot_cmp old spot ≡ None) × (why ≡ reason.Absent)

-- what is known of the types of the entities of a key
abbrev pub AreTypes : EntityModel → List Entity → List Value → Option Types → Type 0
AreTypes model entities key None = (entity : Entity) → Contains entities entity → key_of model entity ≢ key
AreTypes model entities key (Some (One ty)) = ((entity : Entity) × Contains entities entity × (key_of model entity ≡ key))
    × ((entity : Entity) → Contains entities entity → key_of model entity ≡ key → entity.ty ≡ ty)
AreTypes model entities key (Some Several) = (one : Entity) × (other : Entity) × Contains entities one × Contains entities other
    × (key_of model one ≡ key) × (key_of model other ≡ key) × (one.ty ≢ other.ty)
