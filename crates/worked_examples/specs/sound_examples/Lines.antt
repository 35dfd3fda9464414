-- Lines: lines of orders, each of which has its order's id and a number as its key. The constraint leads from the set of lines to that of
-- orders.
use Rattle.std.specs.Prelude.{[], ◌∷◌, Some, None, false, codes}
use Rattle.round_trip.specs.Words.{EntityModel, EntityType, Prop, EntitySet, Assoc, Constraint, End}
use Rattle.emc_base.specs.declared.value.Kind.TheVariants as kind
use Rattle.edm_types.specs.declared.model.Mult.TheVariants.{One, Many}
use Rattle.worked_examples.specs.Ids.{type_id, set_id, prop_id, needed, set_of, leaf, concrete_type, model_of}

abbrev pub order_id_prop : Prop
order_id_prop = needed (type_id 0) (codes "Id") kind.Int32

abbrev pub line_order_prop : Prop
line_order_prop = needed (type_id 1) (codes "OrderId") kind.Int32

abbrev pub line_number_prop : Prop
line_number_prop = needed (type_id 1) (codes "Number") kind.Int16

abbrev pub order_type : EntityType
order_type = concrete_type (codes "Order") None (prop_id 0 ∷ []) (prop_id 0 ∷ [])

abbrev pub line_type : EntityType
line_type = concrete_type (codes "Line") None (prop_id 1 ∷ prop_id 2 ∷ []) (prop_id 1 ∷ prop_id 2 ∷ [])

abbrev pub orders_set : EntitySet
orders_set = set_of (codes "Orders") (type_id 0)

abbrev pub lines_set : EntitySet
lines_set = set_of (codes "Lines") (type_id 1)

abbrev pub order_end : End
order_end = record { role = codes "Order"; set = set_id 0; ty = type_id 0; mult = One }

abbrev pub line_end : End
line_end = record { role = codes "Line"; set = set_id 1; ty = type_id 1; mult = Many }

-- the order of a line
abbrev pub order_constraint : Constraint
order_constraint = record { dependent_first = false; principal = prop_id 0 ∷ []; dependent = prop_id 1 ∷ [] }

abbrev pub lines_of_order : Assoc
lines_of_order = record {
  set_name = codes "OrderLines";
  assoc_name = codes "OrderLine";
  first = order_end;
  second = line_end;
  constraint = Some order_constraint;
}

abbrev pub lines_model : EntityModel
lines_model = model_of (order_type ∷ line_type ∷ []) (order_id_prop ∷ line_order_prop ∷ line_number_prop ∷ []) (leaf (type_id 0) ∷ leaf (type_id 1) ∷ [])
    (orders_set ∷ lines_set ∷ []) (lines_of_order ∷ [])
