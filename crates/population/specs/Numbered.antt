-- The numbers of the ends of associations, and the plain entities that each set has of each number.
-- Source: this project's choice of the states that it shows; CSDL version 3, AssociationSet and End.
use Rattle.std.specs.Prelude.{◌==◌, ℕ, zero, suc, List, [], ◌∷◌, map, length, slice_get, Bool, true, false, if◌then◌else◌}
use Rattle.std.specs.Option.{option_map_or}
use Rattle.round_trip.specs.Words.{SetId, TypeId, AssocId, Value, EntityModel, EntitySet, Assoc, End, Entity}
use Rattle.round_trip.specs.soundness.Lookups.{set_key}
use Rattle.schema_laws.specs.short_values.Fresh.{added_value, fresh_at}
use Rattle.schema_laws.specs.short_values.Numbers.{numbers_from}
use Rattle.population.specs.Plain.{plain}

-- an end of an association: the first, or the second
abbrev pub end_of : Bool → Assoc → End
end_of true assoc = assoc.first
end_of false assoc = assoc.second

-- all ends, in the order of associations
abbrev pub ends_of : List Assoc → List End
ends_of [] = []
ends_of (assoc ∷ assocs) = assoc.first ∷ (assoc.second ∷ ends_of assocs)

abbrev pub twice : ℕ → ℕ
twice zero = zero
twice (suc n) = suc (suc (twice n))

-- the number of an end: its place among all ends, counted from one
abbrev pub end_number : Bool → AssocId → ℕ
end_number true a = suc (twice a.index)
end_number false a = suc (suc (twice a.index))

module _ (model : EntityModel) where
  -- how many numbers there are: zero, and those of the ends
  abbrev pub number_count : ℕ
  number_count = suc (twice (length model.assocs))

  -- the type of an end that stands at the set, else the set's element type
  abbrev pub type_at_end : SetId → EntitySet → End → TypeId
  type_at_end u set end = if end.set.index == u.index then end.ty else set.element

  -- the type that is asked of the entity of a number in a set
  abbrev pub asked_type : SetId → EntitySet → ℕ → TypeId
  asked_type u set zero = set.element
  asked_type u set (suc place) = option_map_or (type_at_end u set) (slice_get (ends_of model.assocs) place) set.element

  module _ (outer : ℕ) where
    -- the key of the set whose parts are all the value of a number
    abbrev pub numbered_key : SetId → ℕ → List Value
    numbered_key u number = map (λ p. fresh_at model outer p (added_value number)) (set_key model u)

    -- the set's entity of a number
    abbrev pub numbered : SetId → EntitySet → ℕ → Entity
    numbered u set number = plain model outer number (asked_type u set number) (numbered_key u number)

    -- those of all numbers
    abbrev pub all_numbered : SetId → EntitySet → List Entity
    all_numbered u set = map (numbered u set) (numbers_from 0 number_count)
