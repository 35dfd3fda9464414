-- Items: two tables by the level of an item, which is of some kind: a whole number, or an enumeration.
use Rattle.std.specs.Prelude.{pos, List, ℤ, [], ◌∷◌, codes}
use Rattle.round_trip.specs.Words.{Kind, EntityModel, Schema}
use Rattle.emc_base.specs.declared.value.Kind.TheVariants as kind
use Rattle.emc_base.specs.declared.value.Under.TheVariants as under
use Rattle.worked_examples.specs.Ids.{type_id, needed, leaf, model_of}
use Rattle.worked_examples.specs.people.People.{id_prop}
use Rattle.worked_examples.specs.LevelLost.{item_type, items_set, item_store, level_one, level_two}

abbrev pub items_model : Kind → EntityModel
items_model level = model_of (item_type ∷ []) (id_prop ∷ needed (type_id 0) (codes "Level") level ∷ []) (leaf (type_id 0) ∷ []) (items_set ∷ []) []

-- items of level 1 in the first table, and those of level 2 in the second
abbrev pub items_of : Kind → Schema
items_of level = record { model = items_model level; store = item_store; mapping = record { fragments = level_one ∷ level_two ∷ []; links = [] } }

-- an enumeration of these numbers
abbrev pub levels : List ℤ → Kind
levels numbers = kind.Enum (record { under = under.Int32; members = numbers })

-- the numbers that are compared are levels
abbrev pub three_levels : Schema
three_levels = items_of (levels (pos 1 ∷ pos 2 ∷ pos 3 ∷ []))

-- level 2 is compared, and is none
abbrev pub one_level : Schema
one_level = items_of (levels (pos 1 ∷ []))
