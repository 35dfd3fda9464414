-- Parents: a customer may have a parent, a customer of the same account. The parent's number may be null, so a plain customer asks for none.
use Rattle.std.specs.Prelude.{◌≡◌, ℕ, List, [], ◌∷◌, ◌++◌, map, Some, codes}
use Rattle.round_trip.specs.Words.{Value, Null, EntityModel, Prop, Assoc, Entity, State, IsLegal}
use Rattle.emc_base.specs.declared.value.Kind.TheVariants as kind
use Rattle.edm_types.specs.declared.model.Mult.TheVariants.{ZeroOrOne}
use Rattle.schema_laws.specs.short_values.Numbers.{number}
use Rattle.population.specs.declared.placed.Placed.{Placed}
use Rattle.worked_examples.specs.Ids.{type_id, set_id, prop_id, optional, entity_of}
use Rattle.worked_examples.specs.supported.Accounts.{account, accounts_with, line, many_of, order, refers_by}
use Rattle.worked_examples.specs.supported.Supports.{asked_by, key_in, placed_in, state_of}

abbrev pub parent_prop : Prop
parent_prop = optional (type_id 1) (codes "ParentNo") kind.Int16

abbrev pub parent_of_customer : Assoc
parent_of_customer = record {
  set_name = codes "CustomerParents";
  assoc_name = codes "CustomerParent";
  first = record { role = codes "Parent"; set = set_id 1; ty = type_id 1; mult = ZeroOrOne };
  second = many_of (codes "Child") 1;
  constraint = Some (refers_by (prop_id 1 ∷ prop_id 2 ∷ []) (prop_id 1 ∷ prop_id 9 ∷ []));
}

abbrev pub parents_model : EntityModel
parents_model = accounts_with (prop_id 9 ∷ []) (parent_prop ∷ []) (parent_of_customer ∷ [])

-- a customer with a parent's number or none
abbrev pub child : ℕ → ℕ → Value → Entity
child account_id place parent = entity_of (type_id 1) (number account_id ∷ number place ∷ parent ∷ [])

abbrev pub orphan : ℕ → ℕ → Entity
orphan account_id place = child account_id place Null

abbrev pub one_line : List Placed
one_line = placed_in 3 (line 1 2 3) ∷ []

-- the line asks for its order, the order for a customer, and the customer for the account alone
abbrev pub LineAsks : Type 0
LineAsks = asked_by parents_model one_line ≡ key_in 2 (number 1 ∷ number 2 ∷ []) ∷ key_in 1 (number 1 ∷ number 10007 ∷ []) ∷ key_in 0 (number 1 ∷ []) ∷ []

abbrev pub one_child : List Placed
one_child = placed_in 1 (child 1 5 (number 6)) ∷ []

-- a customer asks for its parent, and both for the account
abbrev pub ChildAsks : Type 0
ChildAsks = asked_by parents_model one_child ≡ key_in 1 (number 1 ∷ number 6 ∷ []) ∷ key_in 0 (number 1 ∷ []) ∷ []

-- a customer that is its own parent asks for the account alone
abbrev pub OwnParentIsTaken : Type 0
OwnParentIsTaken = asked_by parents_model (placed_in 1 (child 1 5 (number 5)) ∷ []) ≡ key_in 0 (number 1 ∷ []) ∷ []

-- the values of number zero and of the numbers of eight ends
abbrev pub nine : List ℕ
nine = 10007 ∷ 10012 ∷ 10017 ∷ 10022 ∷ 10027 ∷ 10032 ∷ 10037 ∷ 10042 ∷ 10047 ∷ []

abbrev pub child_state : State
child_state = record {
  entities = (map account nine ++ account 1 ∷ [])
      ∷ (map (λ n. orphan n n) nine ++ child 1 5 (number 6) ∷ orphan 1 6 ∷ [])
      ∷ map (λ n. order n n n) nine
      ∷ map (λ n. line n n n) nine
      ∷ [];
  links = [] ∷ [] ∷ [] ∷ [] ∷ [];
}

abbrev pub ChildStands : Type 0
ChildStands = state_of parents_model one_child [] ≡ child_state

abbrev pub ChildIsLegal : Type 0
ChildIsLegal = IsLegal parents_model child_state
