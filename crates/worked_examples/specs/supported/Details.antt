-- Details of lines of orders. The key of a detail is that of its line, and holds the id of the line's order: what a detail asks for asks for more.
use Rattle.std.specs.Prelude.{◌≡◌, ℕ, List, [], ◌∷◌, Some, None, false, codes}
use Rattle.round_trip.specs.Words.{EntityModel, EntityType, Prop, EntitySet, Assoc, Constraint, Entity, State, IsLegal}
use Rattle.emc_base.specs.declared.value.Kind.TheVariants as kind
use Rattle.edm_types.specs.declared.model.Mult.TheVariants.{One, ZeroOrOne}
use Rattle.schema_laws.specs.short_values.Numbers.{number}
use Rattle.population.specs.declared.placed.Placed.{Placed}
use Rattle.worked_examples.specs.Ids.{type_id, set_id, prop_id, needed, set_of, entity_of, leaf, concrete_type, model_of}
use Rattle.worked_examples.specs.sound_examples.Lines.{order_id_prop, line_order_prop, line_number_prop, order_type, line_type, orders_set, lines_set, lines_of_order}
use Rattle.worked_examples.specs.supported.Supports.{asked_by, first_asked, key_in, placed_in, state_of}

abbrev pub detail_order_prop : Prop
detail_order_prop = needed (type_id 2) (codes "OrderId") kind.Int32

abbrev pub detail_number_prop : Prop
detail_number_prop = needed (type_id 2) (codes "Number") kind.Int16

abbrev pub detail_type : EntityType
detail_type = concrete_type (codes "Detail") None (prop_id 3 ∷ prop_id 4 ∷ []) (prop_id 3 ∷ prop_id 4 ∷ [])

abbrev pub details_set : EntitySet
details_set = set_of (codes "Details") (type_id 2)

-- the line of a detail
abbrev pub line_constraint : Constraint
line_constraint = record { dependent_first = false; principal = prop_id 1 ∷ prop_id 2 ∷ []; dependent = prop_id 3 ∷ prop_id 4 ∷ [] }

abbrev pub detail_of_line : Assoc
detail_of_line = record {
  set_name = codes "LineDetails";
  assoc_name = codes "LineDetail";
  first = record { role = codes "Line"; set = set_id 1; ty = type_id 1; mult = One };
  second = record { role = codes "Detail"; set = set_id 2; ty = type_id 2; mult = ZeroOrOne };
  constraint = Some line_constraint;
}

abbrev pub details_model : EntityModel
details_model = model_of (order_type ∷ line_type ∷ detail_type ∷ []) (order_id_prop ∷ line_order_prop ∷ line_number_prop ∷ detail_order_prop ∷ detail_number_prop ∷ [])
    (leaf (type_id 0) ∷ leaf (type_id 1) ∷ leaf (type_id 2) ∷ []) (orders_set ∷ lines_set ∷ details_set ∷ []) (lines_of_order ∷ detail_of_line ∷ [])

abbrev pub order : ℕ → Entity
order id = entity_of (type_id 0) (number id ∷ [])

abbrev pub line : ℕ → ℕ → Entity
line order_id place = entity_of (type_id 1) (number order_id ∷ number place ∷ [])

abbrev pub detail : ℕ → ℕ → Entity
detail order_id place = entity_of (type_id 2) (number order_id ∷ number place ∷ [])

abbrev pub one_detail : List Placed
one_detail = placed_in 2 (detail 7 3) ∷ []

-- the detail itself asks for its line alone
abbrev pub DetailAsksFirst : Type 0
DetailAsksFirst = first_asked details_model one_detail ≡ key_in 1 (number 7 ∷ number 3 ∷ []) ∷ []

-- and the line for its order
abbrev pub DetailAsks : Type 0
DetailAsks = asked_by details_model one_detail ≡ key_in 1 (number 7 ∷ number 3 ∷ []) ∷ key_in 0 (number 7 ∷ []) ∷ []

-- number zero and the numbers of four ends, and what the detail asks for
abbrev pub detail_state : State
detail_state = record {
  entities = (order 10007 ∷ order 10012 ∷ order 10017 ∷ order 10022 ∷ order 10027 ∷ order 7 ∷ [])
      ∷ (line 10007 10007 ∷ line 10012 10012 ∷ line 10017 10017 ∷ line 10022 10022 ∷ line 10027 10027 ∷ line 7 3 ∷ [])
      ∷ (detail 10007 10007 ∷ detail 10012 10012 ∷ detail 10017 10017 ∷ detail 10022 10022 ∷ detail 10027 10027 ∷ detail 7 3 ∷ [])
      ∷ [];
  links = [] ∷ [] ∷ [];
}

abbrev pub DetailStands : Type 0
DetailStands = state_of details_model one_detail [] ≡ detail_state

abbrev pub DetailIsLegal : Type 0
DetailIsLegal = IsLegal details_model detail_state
