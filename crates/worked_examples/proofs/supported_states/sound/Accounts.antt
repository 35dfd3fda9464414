-- Accounts, customers, orders and lines: the model is sound, and so are its associations with more properties and associations beside them.
use Rattle.std.proofs.Common.{List, [], ◌∷◌, refl, arith}
use Rattle.round_trip.specs.Words.{Assoc, EntityModel, Prop, PropId}
use Rattle.edm_types.specs.declared.model.TypeNode as node
use Rattle.edm_types.specs.declared.model.TypeNode.TheBlock as block
use Rattle.round_trip.specs.soundness.models.Constraints.{IsSoundAssoc}
use Rattle.round_trip.specs.soundness.models.Models.{IsSoundModel, IsSoundType}
use Rattle.worked_examples.specs.Ids.{leaf, prop_id, type_id}
use Rattle.worked_examples.specs.supported.Accounts as e
use Rattle.worked_examples.proofs.sound_examples.models.Models.{FallsBack, ForestFacts, end_of_set, model_from, root_type}
use Rattle.worked_examples.proofs.supported_states.Constraints.{falls, many_to_one}

module _ (more : List PropId) (props : List Prop) (assocs : List Assoc) where
  abbrev model : EntityModel
  model = e.accounts_with more props assocs

  pub accounts : IsSoundAssoc model e.account_of_customer
  accounts = record {
    first = end_of_set model e.account_of_customer.first e.account_type e.accounts_set refl refl refl refl;
    second = end_of_set model e.account_of_customer.second (e.customer_type_with more) e.customers_set refl refl refl refl;
    kind = many_to_one model e.account_of_customer (prop_id 0 ∷ []) (prop_id 1 ∷ []) refl refl ((e.customer_account_prop, refl, refl), tt)
        (record { element = (e.accounts_set, refl, refl); own = (e.customers_set, refl, refl); key = refl; tests = refl; kinds = refl });
  }

  pub customers : IsSoundAssoc model e.customer_of_order
  customers = record {
    first = end_of_set model e.customer_of_order.first (e.customer_type_with more) e.customers_set refl refl refl refl;
    second = end_of_set model e.customer_of_order.second e.order_type e.orders_set refl refl refl refl;
    kind = many_to_one model e.customer_of_order (prop_id 1 ∷ prop_id 2 ∷ []) (prop_id 3 ∷ prop_id 5 ∷ []) refl refl
        ((e.order_account_prop, refl, refl), ((e.order_customer_prop, refl, refl), tt))
        (record { element = (e.customers_set, refl, refl); own = (e.orders_set, refl, refl); key = refl; tests = refl; kinds = refl });
  }

  pub orders : IsSoundAssoc model e.order_of_line
  orders = record {
    first = end_of_set model e.order_of_line.first e.order_type e.orders_set refl refl refl refl;
    second = end_of_set model e.order_of_line.second e.line_type e.lines_set refl refl refl refl;
    kind = many_to_one model e.order_of_line (prop_id 3 ∷ prop_id 4 ∷ []) (prop_id 6 ∷ prop_id 7 ∷ []) refl refl
        ((e.line_account_prop, refl, refl), ((e.line_order_prop, refl, refl), tt))
        (record { element = (e.orders_set, refl, refl); own = (e.lines_set, refl, refl); key = refl; tests = refl; kinds = refl });
  }

  pub accounts_fall : FallsBack model e.account_of_customer
  accounts_fall = falls model e.account_of_customer (prop_id 0 ∷ []) (prop_id 1 ∷ []) refl (omega arith)

  pub customers_fall : FallsBack model e.customer_of_order
  customers_fall = falls model e.customer_of_order (prop_id 1 ∷ prop_id 2 ∷ []) (prop_id 3 ∷ prop_id 5 ∷ []) refl (omega arith)

  pub orders_fall : FallsBack model e.order_of_line
  orders_fall = falls model e.order_of_line (prop_id 3 ∷ prop_id 4 ∷ []) (prop_id 6 ∷ prop_id 7 ∷ []) refl (omega arith)

  pub forest : ForestFacts model (leaf (type_id 0) ∷ leaf (type_id 1) ∷ leaf (type_id 2) ∷ leaf (type_id 3) ∷ [])
  unfolding node.out-TypeNode denote.Hole.Carrier.out block.shown-the_row-TypeNode-0 denote.Hole.Carrier.shown
  forest = record {
    roots = refl;
    tops = ((0, omega arith, refl), ((1, omega arith, refl), ((2, omega arith, refl), ((3, omega arith, refl), tt))));
    lower = (tt, (tt, (tt, (tt, tt))));
    ids = (omega arith, (omega arith, (omega arith, (omega arith, tt))));
    each = ((refl, refl), ((refl, refl), ((refl, refl), ((refl, refl), tt))));
  }

abbrev own : EntityModel
own = e.accounts_model

account : IsSoundType own (type_id 0) e.account_type
account = root_type own (type_id 0) e.account_type refl refl refl ((tt, refl), tt)

customer : IsSoundType own (type_id 1) (e.customer_type_with [])
customer = root_type own (type_id 1) (e.customer_type_with []) refl refl refl ((tt, refl), ((tt, refl), tt))

order : IsSoundType own (type_id 2) e.order_type
order = root_type own (type_id 2) e.order_type refl refl refl ((tt, refl), ((tt, refl), tt))

line : IsSoundType own (type_id 3) e.line_type
line = root_type own (type_id 3) e.line_type refl refl refl ((tt, refl), ((tt, refl), ((tt, refl), tt)))

pub sound : IsSoundModel e.accounts_model
sound = model_from own (leaf (type_id 0) ∷ leaf (type_id 1) ∷ leaf (type_id 2) ∷ leaf (type_id 3) ∷ []) (tt, (tt, (tt, (tt, tt)))) refl (record {
  forest = forest [] [] [];
  others = ((refl, tt), ((refl, tt), ((refl, tt), ((refl, tt), tt))));
  types = (account, (customer, (order, (line, tt))));
  kinds = (tt, (tt, (tt, (tt, (tt, (tt, (tt, (tt, (tt, tt)))))))));
  elements = ((accounts [] [] []).first.concrete, ((accounts [] [] []).second.concrete, ((customers [] [] []).second.concrete, ((orders [] [] []).second.concrete, tt))));
  linked = (accounts [] [] [], (customers [] [] [], (orders [] [] [], tt)));
  falls = (accounts_fall [] [] [], (customers_fall [] [] [], (orders_fall [] [] [], tt)));
})
