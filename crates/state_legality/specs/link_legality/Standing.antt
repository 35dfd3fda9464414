-- The keys of the entities that stand in sets, in order.
use Rattle.std.specs.Prelude.{◌≡◌, ℕ, List, [], IsPermutation, Option, Some, None, map, slice_get, unwrap_or}
use Rattle.std.specs.Borrow.{Bor}
use Rattle.std.specs.Global.{Vec}
use Rattle.emc_base.specs.Lists.{At}
use Rattle.round_trip.specs.Words.{SetId, Value, EntityModel, Entity, key_of}

-- the keys of entities, each with the number of the entity's type
abbrev pub keyed : EntityModel → List Entity → List (List Value × ℕ)
keyed model entities = map (λ entity. (key_of model entity, entity.ty.index)) entities

-- if there are keys, they are those of the entities
abbrev pub HasKeyed : EntityModel → List Entity → Option (Vec (List Value × ℕ)) → Type 0
HasKeyed model entities (Some keys) = keys.items ≡ keyed model entities
HasKeyed model entities None = Unit {0}

-- if there are keys of a set, they are those of its entities
abbrev pub AreKeyed : EntityModel → List (List Entity) → List (Option (Vec (List Value × ℕ))) → Type 0
AreKeyed model entities keys = (place : ℕ) (of_set : Option (Vec (List Value × ℕ))) → At keys place of_set
    → HasKeyed model (unwrap_or (slice_get entities place) []) of_set

-- the same keys in any order, if there are keys
abbrev pub IsInOrder : Option (Vec (List Value × ℕ)) → Option (Vec (List Value × ℕ)) → Type 0
IsInOrder (Some keys) (Some standing) = IsPermutation keys.items standing.items
IsInOrder None (Some standing) = ⊥
IsInOrder keys None = Unit {0}

-- the same of each set
abbrev pub AreInOrder : List (Option (Vec (List Value × ℕ))) → List (Option (Vec (List Value × ℕ))) → Type 0
AreInOrder keys standing = (place : ℕ) (of_set : Option (Vec (List Value × ℕ))) → At standing place of_set
    → IsInOrder (unwrap_or (slice_get keys place) None) of_set

-- what stands in each set, if it is known
abbrev pub AreStanding : EntityModel → List (List Entity) → List (Option (Vec (List Value × ℕ))) → Type 0
AreStanding model entities standing = (place : ℕ) (of_set : Vec (List Value × ℕ)) → At standing place (Some of_set)
    → IsPermutation (keyed model (unwrap_or (slice_get entities place) [])) of_set.items

-- the keys of a set, if they are known
abbrev pub IsStandingAt : List (Option (Vec (List Value × ℕ))) → SetId → Option (Bor (List (List Value × ℕ))) → Type 0
IsStandingAt standing set (Some keys) = (of_set : Vec (List Value × ℕ)) × At standing set.index (Some of_set) × (keys.now ≡ of_set.items)
IsStandingAt standing set None = Unit {0}
