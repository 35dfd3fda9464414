-- Whether a type is another or derived from it, as a computed answer.
-- Source: CSDL version 3, EntityType and its BaseType.
use Rattle.std.specs.Prelude.{ℕ, zero, suc, Bool, false, ◌==◌, ◌||◌, length, Option, option_and_then}
use Rattle.std.specs.Option.{option_map_or}
use Rattle.round_trip.specs.Words.{TypeId, EntityModel, type_at}

-- the base type of a type; None where it has none
abbrev pub base_of : EntityModel → TypeId → Option TypeId
base_of model t = option_and_then (λ type. type.base) (type_at model t)

-- whether the second type is the first or one of so many above it
abbrev pub is_under : EntityModel → ℕ → TypeId → TypeId → Bool
is_under model zero t u = t.index == u.index
is_under model (suc n) t u = (t.index == u.index) || option_map_or (λ base. is_under model n base u) (base_of model t) false

-- whether the first type is the second or derived from it: no more types stand above one than the model has
abbrev pub derives : EntityModel → TypeId → TypeId → Bool
derives model t u = is_under model (length model.types) t u
