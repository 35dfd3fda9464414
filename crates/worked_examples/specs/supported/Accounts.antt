-- Accounts: customers, orders and lines of orders, whose keys all hold the id of an account. An order has its customer's number beside its key; in an order
-- that a line asks for, this is the value of number zero.
use Rattle.std.specs.Prelude.{◌≡◌, ℕ, List, [], ◌∷◌, ◌++◌, map, Some, None, false, codes}
use Rattle.round_trip.specs.Words.{EntityModel, EntityType, Prop, PropId, EntitySet, Assoc, Constraint, End, Entity, State, IsLegal}
use Rattle.emc_base.specs.declared.value.Kind.TheVariants as kind
use Rattle.edm_types.specs.declared.model.Mult.TheVariants.{One, Many}
use Rattle.schema_laws.specs.short_values.Numbers.{number}
use Rattle.population.specs.declared.placed.Placed.{Placed}
use Rattle.worked_examples.specs.Ids.{type_id, set_id, prop_id, needed, set_of, entity_of, leaf, concrete_type, model_of}
use Rattle.worked_examples.specs.supported.Supports.{asked_by, first_asked, key_in, placed_in, state_of}

abbrev pub account_type : EntityType
account_type = concrete_type (codes "Account") None (prop_id 0 ∷ []) (prop_id 0 ∷ [])

-- customers with these properties beside their key
abbrev pub customer_type_with : List PropId → EntityType
customer_type_with more = concrete_type (codes "Customer") None (prop_id 1 ∷ prop_id 2 ∷ []) (prop_id 1 ∷ prop_id 2 ∷ more)

abbrev pub order_type : EntityType
order_type = concrete_type (codes "Order") None (prop_id 3 ∷ prop_id 4 ∷ []) (prop_id 3 ∷ prop_id 4 ∷ prop_id 5 ∷ [])

abbrev pub line_type : EntityType
line_type = concrete_type (codes "Line") None (prop_id 6 ∷ prop_id 7 ∷ prop_id 8 ∷ []) (prop_id 6 ∷ prop_id 7 ∷ prop_id 8 ∷ [])

-- the first nine properties
abbrev pub id_prop : Prop
id_prop = needed (type_id 0) (codes "Id") kind.Int32

abbrev pub customer_account_prop : Prop
customer_account_prop = needed (type_id 1) (codes "AccountId") kind.Int32

abbrev pub customer_number_prop : Prop
customer_number_prop = needed (type_id 1) (codes "Number") kind.Int16

abbrev pub order_account_prop : Prop
order_account_prop = needed (type_id 2) (codes "AccountId") kind.Int32

abbrev pub order_number_prop : Prop
order_number_prop = needed (type_id 2) (codes "Number") kind.Int16

abbrev pub order_customer_prop : Prop
order_customer_prop = needed (type_id 2) (codes "CustomerNo") kind.Int16

abbrev pub line_account_prop : Prop
line_account_prop = needed (type_id 3) (codes "AccountId") kind.Int32

abbrev pub line_order_prop : Prop
line_order_prop = needed (type_id 3) (codes "OrderNo") kind.Int16

abbrev pub line_number_prop : Prop
line_number_prop = needed (type_id 3) (codes "Number") kind.Int16

abbrev pub accounts_set : EntitySet
accounts_set = set_of (codes "Accounts") (type_id 0)

abbrev pub customers_set : EntitySet
customers_set = set_of (codes "Customers") (type_id 1)

abbrev pub orders_set : EntitySet
orders_set = set_of (codes "Orders") (type_id 2)

abbrev pub lines_set : EntitySet
lines_set = set_of (codes "Lines") (type_id 3)

-- exactly one of the set and type of a number, and any number of them
abbrev pub one_of : List ℕ → ℕ → End
one_of role n = record { role = role; set = set_id n; ty = type_id n; mult = One }

abbrev pub many_of : List ℕ → ℕ → End
many_of role n = record { role = role; set = set_id n; ty = type_id n; mult = Many }

-- the second end refers to the first by these properties
abbrev pub refers_by : List PropId → List PropId → Constraint
refers_by principal dependent = record { dependent_first = false; principal = principal; dependent = dependent }

abbrev pub account_of_customer : Assoc
account_of_customer = record {
  set_name = codes "AccountCustomers";
  assoc_name = codes "AccountCustomer";
  first = one_of (codes "Account") 0;
  second = many_of (codes "Customer") 1;
  constraint = Some (refers_by (prop_id 0 ∷ []) (prop_id 1 ∷ []));
}

abbrev pub customer_of_order : Assoc
customer_of_order = record {
  set_name = codes "CustomerOrders";
  assoc_name = codes "CustomerOrder";
  first = one_of (codes "Customer") 1;
  second = many_of (codes "Order") 2;
  constraint = Some (refers_by (prop_id 1 ∷ prop_id 2 ∷ []) (prop_id 3 ∷ prop_id 5 ∷ []));
}

abbrev pub order_of_line : Assoc
order_of_line = record {
  set_name = codes "OrderLines";
  assoc_name = codes "OrderLine";
  first = one_of (codes "Order") 2;
  second = many_of (codes "Line") 3;
  constraint = Some (refers_by (prop_id 3 ∷ prop_id 4 ∷ []) (prop_id 6 ∷ prop_id 7 ∷ []));
}

-- with these properties of customers, and these associations, beside the others
abbrev pub accounts_with : List PropId → List Prop → List Assoc → EntityModel
accounts_with more props assocs = model_of (account_type ∷ customer_type_with more ∷ order_type ∷ line_type ∷ [])
    (id_prop ∷ customer_account_prop ∷ customer_number_prop ∷ order_account_prop ∷ order_number_prop ∷ order_customer_prop ∷ line_account_prop ∷ line_order_prop ∷ line_number_prop
    ∷ props)
    (leaf (type_id 0) ∷ leaf (type_id 1) ∷ leaf (type_id 2) ∷ leaf (type_id 3) ∷ []) (accounts_set ∷ customers_set ∷ orders_set ∷ lines_set ∷ [])
    (account_of_customer ∷ customer_of_order ∷ order_of_line ∷ assocs)

abbrev pub accounts_model : EntityModel
accounts_model = accounts_with [] [] []

abbrev pub account : ℕ → Entity
account id = entity_of (type_id 0) (number id ∷ [])

abbrev pub customer : ℕ → ℕ → Entity
customer account_id place = entity_of (type_id 1) (number account_id ∷ number place ∷ [])

abbrev pub order : ℕ → ℕ → ℕ → Entity
order account_id place customer_number = entity_of (type_id 2) (number account_id ∷ number place ∷ number customer_number ∷ [])

abbrev pub line : ℕ → ℕ → ℕ → Entity
line account_id order_number place = entity_of (type_id 3) (number account_id ∷ number order_number ∷ number place ∷ [])

abbrev pub one_line : List Placed
one_line = placed_in 3 (line 1 2 3) ∷ []

-- the line itself asks for its order alone
abbrev pub LineAsksFirst : Type 0
LineAsksFirst = first_asked accounts_model one_line ≡ key_in 2 (number 1 ∷ number 2 ∷ []) ∷ []

-- the order asks for a customer, and the customer for the account
abbrev pub LineAsks : Type 0
LineAsks = asked_by accounts_model one_line ≡ key_in 2 (number 1 ∷ number 2 ∷ []) ∷ key_in 1 (number 1 ∷ number 10007 ∷ []) ∷ key_in 0 (number 1 ∷ []) ∷ []

-- the values of number zero and of the numbers of six ends
abbrev pub seven : List ℕ
seven = 10007 ∷ 10012 ∷ 10017 ∷ 10022 ∷ 10027 ∷ 10032 ∷ 10037 ∷ []

abbrev pub line_state : State
line_state = record {
  entities = (map account seven ++ account 1 ∷ [])
      ∷ (map (λ n. customer n n) seven ++ customer 1 10007 ∷ [])
      ∷ (map (λ n. order n n n) seven ++ order 1 2 10007 ∷ [])
      ∷ (map (λ n. line n n n) seven ++ line 1 2 3 ∷ [])
      ∷ [];
  links = [] ∷ [] ∷ [] ∷ [];
}

abbrev pub LineStands : Type 0
LineStands = state_of accounts_model one_line [] ≡ line_state

abbrev pub LineIsLegal : Type 0
LineIsLegal = IsLegal accounts_model line_state

-- a line of an order that stands in each state, by number zero, asks for nothing
abbrev pub NumberedOrderIsTaken : Type 0
NumberedOrderIsTaken = asked_by accounts_model (placed_in 3 (line 10007 10007 3) ∷ []) ≡ []
