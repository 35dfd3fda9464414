-- Keys in sets that are one, and members that are one by what they have.
use Rattle.std.proofs.Common.{◌≡◌, ◌==◌, ◌<◌, List, [], length, slice_get, unwrap_or, Decides, Contains, Some, ap, subst, ◌∙◌, ⊎_elim, ◌≤◌, ℕ}
use Rattle.std.proofs.lemmas.Bool.{cases_lt}
use Rattle.std.proofs.lemmas.Bool.Decides.{Decides-and, Decides-like}
use Rattle.std.proofs.lemmas.Option.{slice_get-get_or, slice_get_past}
use Rattle.emc_base.specs.Lists.{At, AtMostOne}
use Rattle.emc_base.proofs.Lists.{at_once, item_at}
use Rattle.round_trip.specs.Words.{SetId, EntityModel, EntitySet, Entity, State, IsLegal, IsState, entities_in, key_of}
use Rattle.schema_laws.specs.state_demand.Selecting.{same_key}
use Rattle.schema_laws.proofs.state_demand.lists.Ids.{Decides-set}
use Rattle.schema_laws.proofs.state_demand.lists.Lists.{none_in_nil, same_by_key}
use Rattle.schema_laws.proofs.state_demand.writings.Selecting.{Decides-key}
use Rattle.population.specs.Principals.{PlacedKey}
use Rattle.population.specs.Support.{same_placed}

pub Decides-placed : (one other : PlacedKey) → Decides (same_placed one other) (one ≡ other)
Decides-placed one other = Decides-like (same_placed one other)
    (λ (parts : (one.set ≡ other.set) × (one.key ≡ other.key)). λ k. record { set = parts.0 k; key = parts.1 k })
    (λ (same : one ≡ other). (ap (λ (placed : PlacedKey). placed.set) same, ap (λ (placed : PlacedKey). placed.key) same))
    (Decides-and (one.set.index == other.set.index) (same_key one.key other.key) (Decides-set one.set other.set) (Decides-key one.key other.key))

module _ {X : Type 0} where
  -- a member stands at a place
  pub place_of : (xs : List X) (x : X) → Contains xs x → (i : ℕ) × At xs i x
  place_of xs x has = (has.0, slice_get-get_or xs has.0 x has.1 ∙ ap Some has.2)

  -- members of which at most one has a property are one
  pub same_of_most : (P : X → Type 0) (xs : List X) → AtMostOne P xs → (x y : X) → Contains xs x → Contains xs y → P x → P y → x ≡ y
  same_of_most P xs most x y has_x has_y holds_x holds_y =
      let at_x = place_of xs x has_x in
      let at_y = place_of xs y has_y in
      let same : at_x.0 ≡ at_y.0 = most at_x.0 at_y.0 x y at_x.1 at_y.1 holds_x holds_y in
      at_once xs at_y.0 x y (subst (λ i. At xs i x) same at_x.1) at_y.1

module _ {X : Type 0} (lists : List (List X)) (i : ℕ) where
  -- there is nothing past the last list
  pub none_past : length lists ≤ i → unwrap_or (slice_get lists i) [] ≡ []
  none_past past = ap (λ found. unwrap_or found []) (slice_get_past lists i past)

  -- what stands in a list of lists stands before its end
  pub stands_within : (x : X) → Contains (unwrap_or (slice_get lists i) []) x → i < length lists
  stands_within x has = ⊎_elim
      (λ (within : i < length lists). within)
      (λ (past : length lists ≤ i). absurd (none_in_nil x (subst (λ list. Contains list x) (none_past past) has)))
      (cases_lt i (length lists))

module _ (model : EntityModel) (state : State) where
  -- a set in which an entity stands is one of the model's
  pub set_there : IsState model state → (u : SetId) (entity : Entity) → Contains (entities_in state u) entity → (set : EntitySet) × At model.sets u.index set
  set_there shape u entity has = item_at model.sets u.index (subst (λ n. u.index < n) shape.sets (stands_within state.entities u.index entity has))

  -- a key stands once in a set
  pub one_entity : IsLegal model state → (u : SetId) (x y : Entity) → Contains (entities_in state u) x → Contains (entities_in state u) y → key_of model x ≡ key_of model y → x ≡ y
  one_entity legal u x y has_x has_y same =
      let set = set_there legal.shape u x has_x in same_by_key (key_of model) (entities_in state u) x y (legal.sets u set.0 set.1).keys has_x has_y same
