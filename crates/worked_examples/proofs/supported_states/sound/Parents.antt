-- Customers who may have parents: the model is sound. Their constraint is by key, and no arrow, since the parent's number may be null.
use Rattle.std.proofs.Common.{◌≡◌, List, [], ◌∷◌, refl, subst, sym}
use Rattle.std.specs.Prelude.{All, false}
use Rattle.round_trip.specs.Words.{Assoc, Constraint, Prop, PropId}
use Rattle.round_trip.specs.soundness.Lookups.{IsNeeded}
use Rattle.round_trip.specs.soundness.models.Constraints.{IsSoundAssoc}
use Rattle.round_trip.specs.soundness.models.Models.{IsSoundModel, IsSoundType}
use Rattle.std.proofs.lemmas.List.Elements.{All-contains}
use Rattle.worked_examples.specs.Ids.{leaf, prop_id, type_id}
use Rattle.worked_examples.specs.supported.Accounts as e
use Rattle.worked_examples.specs.supported.Parents.{parent_of_customer, parent_prop, parents_model}
use Rattle.worked_examples.proofs.facts.Small.{here, later}
use Rattle.worked_examples.proofs.sound_examples.models.Models.{FallsBack, end_of_set, model_from, root_type}
use Rattle.worked_examples.proofs.supported_states.Constraints.{many_to_some}
use Rattle.worked_examples.proofs.supported_states.sound.Accounts as others

abbrev more : List PropId
more = prop_id 9 ∷ []

abbrev props : List Prop
props = parent_prop ∷ []

abbrev assocs : List Assoc
assocs = parent_of_customer ∷ []

account : IsSoundType parents_model (type_id 0) e.account_type
account = root_type parents_model (type_id 0) e.account_type refl refl refl ((tt, refl), tt)

customer : IsSoundType parents_model (type_id 1) (e.customer_type_with more)
customer = root_type parents_model (type_id 1) (e.customer_type_with more) refl refl refl ((tt, refl), ((tt, refl), tt))

order : IsSoundType parents_model (type_id 2) e.order_type
order = root_type parents_model (type_id 2) e.order_type refl refl refl ((tt, refl), ((tt, refl), tt))

line : IsSoundType parents_model (type_id 3) e.line_type
line = root_type parents_model (type_id 3) e.line_type refl refl refl ((tt, refl), ((tt, refl), ((tt, refl), tt)))

sound_parents : IsSoundAssoc parents_model parent_of_customer
sound_parents = record {
  first = end_of_set parents_model parent_of_customer.first (e.customer_type_with more) e.customers_set refl refl refl refl;
  second = end_of_set parents_model parent_of_customer.second (e.customer_type_with more) e.customers_set refl refl refl refl;
  kind = many_to_some parents_model parent_of_customer (prop_id 1 ∷ prop_id 2 ∷ []) (prop_id 1 ∷ prop_id 9 ∷ []) refl refl
      (record { element = (e.customers_set, refl, refl); own = (e.customers_set, refl, refl); key = refl; tests = refl; kinds = refl });
}

-- the parent's number may be null
not_needed : ¬ IsNeeded parents_model (prop_id 9)
not_needed needed =
    let is : parent_prop ≡ needed.0 = cc (needed.1) in
    let never : parent_prop.nullable ≡ false = subst (λ (p : Prop). p.nullable ≡ false) (sym is) needed.2 in
    absurd (cc)

no_arrow : FallsBack parents_model parent_of_customer
no_arrow constraint constrained by_key needed =
    let is : e.refers_by (prop_id 1 ∷ prop_id 2 ∷ []) (prop_id 1 ∷ prop_id 9 ∷ []) ≡ constraint = cc in
    let own : All (IsNeeded parents_model) (prop_id 1 ∷ prop_id 9 ∷ []) = subst (λ (c : Constraint). All (IsNeeded parents_model) c.dependent) (sym is) needed in
    absurd (not_needed (All-contains (IsNeeded parents_model) (prop_id 1 ∷ prop_id 9 ∷ []) (prop_id 9) own (later (prop_id 1) (prop_id 9) (prop_id 9 ∷ []) (here (prop_id 9) []))))

pub sound : IsSoundModel parents_model
sound = model_from parents_model (leaf (type_id 0) ∷ leaf (type_id 1) ∷ leaf (type_id 2) ∷ leaf (type_id 3) ∷ []) (tt, (tt, (tt, (tt, tt)))) refl (record {
  forest = others.forest more props assocs;
  others = ((refl, tt), ((refl, tt), ((refl, tt), ((refl, tt), tt))));
  types = (account, (customer, (order, (line, tt))));
  kinds = (tt, (tt, (tt, (tt, (tt, (tt, (tt, (tt, (tt, (tt, tt))))))))));
  elements = (
    (others.accounts more props assocs).first.concrete,
    (
      (others.accounts more props assocs).second.concrete,
      ((others.customers more props assocs).second.concrete, ((others.orders more props assocs).second.concrete, tt)),
    ),
  );
  linked = (others.accounts more props assocs, (others.customers more props assocs, (others.orders more props assocs, (sound_parents, tt))));
  falls = (
    others.accounts_fall more props assocs,
    (others.customers_fall more props assocs, (others.orders_fall more props assocs, (no_arrow, tt))),
  );
})
