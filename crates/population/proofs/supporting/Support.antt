-- The support of wanted keys: the least list that is closed under steps, and it fits the given entities.
use Rattle.std.proofs.Common.{◌≡◌, ◌≢◌, ⊎_elim, inl, inr, ℕ, zero, suc, ◌+◌, ◌<◌, ◌==◌, List, [], ◌++◌, map, filter, flat_map, length, get_or, Any, Contains, Bool, not, Decides, refl, sym, subst, ◌∙◌, arith}
use Rattle.std.specs.Option.{option_map_or}
use Rattle.std.proofs.lemmas.Bool.{not-true}
use Rattle.std.proofs.lemmas.Bool.Decides.{Decides-like, Decides-not, not_from_Decides}
use Rattle.std.proofs.lemmas.List.Elements.{Contains-append_cases, Contains-append_left, Contains-append_right, Contains-get_or}
use Rattle.std.proofs.lemmas.List.Kept.{AllPairs-filter}
use Rattle.emc_base.specs.Lists.{AreApart}
use Rattle.emc_base.proofs.FoundItems.{contains_flat_map, member_of, some_member}
use Rattle.emc_base.proofs.Joined.{in_flat_map}
use Rattle.emc_base.proofs.Mapped.{contains_filter, contains_map}
use Rattle.emc_base.proofs.Numbered.{all_pairs_map, filter_contains, map_contains}
use Rattle.round_trip.specs.Words.{SetId, Value, EntityModel, EntitySet, Entity, At, key_of}
use Rattle.schema_laws.specs.short_values.Numbers.{numbers_from}
use Rattle.schema_laws.specs.state_demand.Selecting.{same_key}
use Rattle.schema_laws.proofs.state_demand.lists.Distinct.{contains_distinct, distinct_apart, member_of_distinct}
use Rattle.schema_laws.proofs.state_demand.lists.Ids.{Decides-set}
use Rattle.schema_laws.proofs.state_demand.lists.Lists.{Decides-any}
use Rattle.schema_laws.proofs.state_demand.writings.Decisions.{so_or_not}
use Rattle.schema_laws.proofs.state_demand.writings.Selecting.{Decides-key}
use Rattle.population.specs.Given.{AreGiven, AreKeys, AreWanted, HasNumbers, HasShortParts, IsThere}
use Rattle.population.specs.Numbered.{number_count, numbered, numbered_key}
use Rattle.population.specs.Plain.{plain}
use Rattle.population.specs.Principals.{AsksFor, PlacedKey, principals}
use Rattle.population.specs.Support.{IsLeastFor, IsTaken, free_keys, is_taken, levels, same_placed, step_count, steps, support}
use Rattle.population.specs.Supported.{Placed, given_in, keys_in, stands_in}
use Rattle.population.proofs.supporting.Arrows.{IsReached, reached_few, reached_first, reached_then, step_arrow, step_within}
use Rattle.population.proofs.principals.Asked.{asked_of}
use Rattle.population.proofs.principals.Matched.{sound_constraint}
use Rattle.population.proofs.supporting.Entities.{given_stands, key_stands, number_stands, smaller, smaller_there}
use Rattle.population.proofs.plain.Numbered.{asked_concrete, asked_under, number_small, numbered_has}
use Rattle.population.proofs.plain.Placed.{Decides-placed}
use Rattle.population.proofs.plain.Plain.{has_key}
use Rattle.population.proofs.plain.Shortness.{step_short}

-- keys of a set
pub key_in : (keys : List PlacedKey) (u : SetId) (key : List Value) → Contains (keys_in keys u) key → Contains keys (record { set = u; key = key })
key_in keys u key has =
    let test : PlacedKey → Bool = λ placed. placed.set.index == u.index in
    let found = map_contains (λ (placed : PlacedKey). placed.key) (filter test keys) key has in
    let kept = filter_contains test keys found.0 found.1 in
    let set_is : found.0.set ≡ u = (Decides-set found.0.set u).0 kept.1 in
    let is : found.0 ≡ record { set = u; key = key } = λ i. record { set = set_is i; key = found.2 i } in
    subst (Contains keys) is kept.0

pub in_keys : (keys : List PlacedKey) (placed : PlacedKey) → Contains keys placed → Contains (keys_in keys placed.set) placed.key
in_keys keys placed has =
    let test : PlacedKey → Bool = λ one. one.set.index == placed.set.index in
    contains_map (λ (one : PlacedKey). one.key) (filter test keys) placed (contains_filter test keys placed has ((Decides-set placed.set placed.set).1 refl))

module _ (model : EntityModel) (outer : ℕ) (given : List Placed) where
  -- whether an entity of a number, or a given one, has the key
  pub Decides-taken : (placed : PlacedKey) → Decides (is_taken model outer given placed) (IsTaken model outer given placed)
  Decides-taken placed =
      let numbers : List (List Value) = map (numbered_key model outer placed.set) (numbers_from 0 (number_count model)) in
      let own : List (List Value) = map (key_of model) (given_in given placed.set) in
      Decides-like (is_taken model outer given placed)
      (λ (any : Any (λ key. placed.key ≡ key) (numbers ++ own)).
      let found = member_of (λ key. placed.key ≡ key) (numbers ++ own) any in
      ⊎_elim
      (λ (one : Contains numbers found.0).
      let number = map_contains (numbered_key model outer placed.set) (numbers_from 0 (number_count model)) found.0 one in
      inl (number.0, smaller (number_count model) number.0 number.1, found.2 ∙ sym number.2))
      (λ (one : Contains own found.0).
      let entity = map_contains (key_of model) (given_in given placed.set) found.0 one in
      inr (entity.0, entity.1, entity.2 ∙ sym found.2))
      (Contains-append_cases numbers own found.0 found.1))
      (λ (taken : IsTaken model outer given placed). ⊎_elim
      (λ (one : (number : ℕ) × (number < number_count model) × (placed.key ≡ numbered_key model outer placed.set number)).
      let key : List Value = numbered_key model outer placed.set one.0 in
      some_member (λ k. placed.key ≡ k) (numbers ++ own) key
      (Contains-append_left numbers own key (contains_map (numbered_key model outer placed.set) (numbers_from 0 (number_count model)) one.0 (smaller_there (number_count model) one.0 one.1))) one.2)
      (λ (one : (entity : Entity) × Contains (given_in given placed.set) entity × (key_of model entity ≡ placed.key)).
      let key : List Value = key_of model one.0 in
      some_member (λ k. placed.key ≡ k) (numbers ++ own) key
      (Contains-append_right numbers own key (contains_map (key_of model) (given_in given placed.set) one.0 one.1)) (sym one.2))
      taken)
      (Decides-any (same_key placed.key) (λ key. placed.key ≡ key) (λ key. Decides-key placed.key key) (numbers ++ own))

  -- free keys are those that aren't taken
  pub free_is : (keys : List PlacedKey) (placed : PlacedKey) → Contains (free_keys model outer given keys) placed → Contains keys placed × ¬ IsTaken model outer given placed
  free_is keys placed has =
      let kept = filter_contains (λ one. not (is_taken model outer given one)) keys placed has in
      (kept.0, not_from_Decides (is_taken model outer given placed) (Decides-taken placed) (not-true (is_taken model outer given placed) kept.1))

  pub is_free : (keys : List PlacedKey) (placed : PlacedKey) → Contains keys placed → ¬ IsTaken model outer given placed → Contains (free_keys model outer given keys) placed
  is_free keys placed has free =
      contains_filter (λ one. not (is_taken model outer given one)) keys placed has ((Decides-not (is_taken model outer given placed) (Decides-taken placed)).1 free)

  -- the keys to which a step leads
  abbrev next : List PlacedKey → List PlacedKey
  next keys = free_keys model outer given (flat_map (steps model outer) keys)

  next_is : (keys : List PlacedKey) (to : PlacedKey) → Contains (next keys) to → (from : PlacedKey) × Contains keys from × Contains (steps model outer from) to
  next_is keys to has = in_flat_map (steps model outer) keys to (free_is (flat_map (steps model outer) keys) to has).0

  is_next : (keys : List PlacedKey) (from to : PlacedKey) → Contains keys from → Contains (steps model outer from) to → ¬ IsTaken model outer given to → Contains (next keys) to
  is_next keys from to has has_step free = is_free (flat_map (steps model outer) keys) to (contains_flat_map (steps model outer) keys from to has has_step) free

  levels_here : (n : ℕ) (keys : List PlacedKey) (placed : PlacedKey) → Contains keys placed → Contains (levels model outer given n keys) placed
  levels_here zero keys placed has = has
  levels_here (suc n) keys placed has = Contains-append_left keys (levels model outer given n (next keys)) placed has

  -- what is so of the first keys, and is kept by steps, is so of all levels
  levels_all : (P : PlacedKey → Type 0) → ((from to : PlacedKey) → P from → Contains (steps model outer from) to → ¬ IsTaken model outer given to → P to)
      → (n : ℕ) (keys : List PlacedKey) → ((placed : PlacedKey) → Contains keys placed → P placed) → (placed : PlacedKey) → Contains (levels model outer given n keys) placed → P placed
  levels_all P keeps zero keys first placed has = first placed has
  levels_all P keeps (suc n) keys first placed has = ⊎_elim
      (λ (here : Contains keys placed). first placed here)
      (λ (later : Contains (levels model outer given n (next keys)) placed). levels_all P keeps n (next keys)
      (λ to has_to. let from = next_is keys to has_to in keeps from.0 to (first from.0 from.1) from.2 (free_is (flat_map (steps model outer) keys) to has_to).1) placed later)
      (Contains-append_cases keys (levels model outer given n (next keys)) placed has)

  -- what is so of wanted keys that are free, and is kept by steps, is so of the support
  pub support_all : (P : PlacedKey → Type 0) → ((from to : PlacedKey) → P from → Contains (steps model outer from) to → ¬ IsTaken model outer given to → P to)
      → (wanted : List PlacedKey) → ((placed : PlacedKey) → Contains wanted placed → ¬ IsTaken model outer given placed → P placed)
      → (placed : PlacedKey) → Contains (support model outer given wanted) placed → P placed
  support_all P keeps wanted first placed has =
      levels_all P keeps (step_count model outer) (free_keys model outer given wanted) (λ one has_one. let free = free_is wanted one has_one in first one free.0 free.1) placed
      (member_of_distinct same_placed Decides-placed (levels model outer given (step_count model outer) (free_keys model outer given wanted)) placed has)

  pub support_free : (wanted : List PlacedKey) (placed : PlacedKey) → Contains (support model outer given wanted) placed → ¬ IsTaken model outer given placed
  support_free wanted = support_all (λ placed. ¬ IsTaken model outer given placed) (λ from to before has_step free. free) wanted (λ placed has free. free)

  pub support_once : (wanted : List PlacedKey) → AreApart (support model outer given wanted)
  support_once wanted = distinct_apart same_placed Decides-placed (levels model outer given (step_count model outer) (free_keys model outer given wanted))

  module _ (has : HasNumbers model outer) where
    -- enough levels are closed under steps
    levels_closed : (n m : ℕ) (keys : List PlacedKey) → ((placed : PlacedKey) → Contains keys placed → IsReached model outer has m placed.set) → length model.sets < m + suc n
        → (from to : PlacedKey) → Contains (levels model outer given n keys) from → Contains (steps model outer from) to → ¬ IsTaken model outer given to
        → Contains (levels model outer given n keys) to
    levels_closed zero m keys reached enough from to has_from has_step free =
        let is_arrow = step_arrow model outer has from to has_step (λ number below equal. free (inl (number, below, equal))) in
        let few = reached_few model outer has (suc m) to.set
        (reached_then model outer has m from.set to.set (step_within model outer has from to has_step) is_arrow (reached from has_from)) in
        absurd (omega (arith, few, enough))
    levels_closed (suc n) m keys reached enough from to has_from has_step free = ⊎_elim
        (λ (here : Contains keys from).
        Contains-append_right keys (levels model outer given n (next keys)) to (levels_here n (next keys) to (is_next keys from to here has_step free)))
        (λ (later : Contains (levels model outer given n (next keys)) from).
        Contains-append_right keys (levels model outer given n (next keys)) to
        (levels_closed n (suc m) (next keys)
        (λ one has_one.
        let before = next_is keys one has_one in
        let one_free = (free_is (flat_map (steps model outer) keys) one has_one).1 in
        reached_then model outer has m before.0.set one.set (step_within model outer has before.0 one before.2)
        (step_arrow model outer has before.0 one before.2 (λ number below equal. one_free (inl (number, below, equal)))) (reached before.0 before.1))
        (omega (arith, enough)) from to later has_step free))
        (Contains-append_cases keys (levels model outer given n (next keys)) from has_from)

    pub support_wanted : (wanted : List PlacedKey) (placed : PlacedKey) → Contains wanted placed → ¬ IsTaken model outer given placed → Contains (support model outer given wanted) placed
    support_wanted wanted placed has_placed free =
        contains_distinct same_placed Decides-placed (levels model outer given (step_count model outer) (free_keys model outer given wanted)) placed
        (levels_here (step_count model outer) (free_keys model outer given wanted) placed (is_free wanted placed has_placed free))

    pub support_closed : (wanted : List PlacedKey) (from to : PlacedKey) → Contains (support model outer given wanted) from → Contains (steps model outer from) to
        → ¬ IsTaken model outer given to → Contains (support model outer given wanted) to
    support_closed wanted from to has_from has_step free =
        let all : List PlacedKey = levels model outer given (step_count model outer) (free_keys model outer given wanted) in
        contains_distinct same_placed Decides-placed all to
        (levels_closed (step_count model outer) 0 (free_keys model outer given wanted) (λ placed has_placed. reached_first model outer has placed.set) (omega arith) from to
        (member_of_distinct same_placed Decides-placed all from has_from) has_step free)

pub support_least : (model : EntityModel) (outer : ℕ) → HasNumbers model outer → (given : List Placed) (wanted : List PlacedKey)
    → IsLeastFor model outer given wanted (support model outer given wanted)
support_least model outer has given wanted = record {
  closed = record { wanted_in = support_wanted model outer given has wanted; steps_in = support_closed model outer given has wanted };
  least = λ other closed. support_all model outer given (Contains other) (λ from to has_from has_step free. closed.steps_in from to has_from has_step free) wanted closed.wanted_in;
  once = support_once model outer given wanted;
}

-- the support fits the given entities
module _ (model : EntityModel) (outer : ℕ) (has : HasNumbers model outer) (given : List Placed) (wanted : List PlacedKey) (are_given : AreGiven model outer given)
    (are_wanted : AreWanted model given wanted) where
  abbrev keys : List PlacedKey
  keys = support model outer given wanted

  pub support_short : (placed : PlacedKey) → Contains keys placed → HasShortParts model placed.set placed.key
  support_short = support_all model outer given (λ placed. HasShortParts model placed.set placed.key) (λ from to short has_step free. step_short model outer has from to short has_step)
      wanted (λ placed has_placed free. are_wanted.short placed has_placed)

  short_in : (u : SetId) (key : List Value) → Contains (keys_in keys u) key → HasShortParts model u key
  short_in u key there = support_short (record { set = u; key = key }) (key_in keys u key there)

  once_in : (u : SetId) → AreApart (keys_in keys u)
  once_in u =
      let test : PlacedKey → Bool = λ placed. placed.set.index == u.index in
      let own : List PlacedKey = filter test keys in
      all_pairs_map (λ a b. a ≢ b) (λ (placed : PlacedKey). placed.key) own (λ i j d below within equal.
      let set_of : (k : ℕ) → k < length own → (get_or own k d).set ≡ u = λ k inside.
      (Decides-set (get_or own k d).set u).0 (filter_contains test keys (get_or own k d) (Contains-get_or own k d inside)).1 in
      let sets = set_of i (omega (arith, below, within)) ∙ sym (set_of j within) in
      AllPairs-filter (λ a b. a ≢ b) test keys (support_once model outer given wanted) i j d below within (λ k. record { set = sets k; key = equal k }))

  -- where a key is taken or in the support, an entity of it stands there
  there : (to : PlacedKey) → (set : EntitySet) → At model.sets to.set.index set → HasShortParts model to.set to.key
      → (¬ IsTaken model outer given to → Contains keys to) → IsThere model outer given keys to
  there to set here short in_support =
      let list : List Entity = stands_in model outer given keys to.set in
      let Keyed : Entity → Type 0 = λ entity. key_of model entity ≡ to.key in
      ⊎_elim
      (λ (taken : IsTaken model outer given to). ⊎_elim
      (λ (one : (number : ℕ) × (number < number_count model) × (to.key ≡ numbered_key model outer to.set number)).
      some_member Keyed list (numbered model outer to.set set one.0) (number_stands model outer given keys to.set set here one.0 one.1)
      (numbered_has model outer has to.set set here one.0 one.1 ∙ sym one.2))
      (λ (one : (entity : Entity) × Contains (given_in given to.set) entity × (key_of model entity ≡ to.key)).
      some_member Keyed list one.0 (given_stands model outer given keys to.set set here one.0 one.1) one.2)
      taken)
      (λ (free : ¬ IsTaken model outer given to).
      some_member Keyed list (plain model outer 0 set.element to.key) (key_stands model outer given keys to.set set here to.key (in_keys keys to (in_support free)))
      (has_key model has.sound outer 0 has.row (number_small model outer has 0 (omega arith)) to.set set.element (asked_concrete model has.sound to.set set here 0)
      (asked_under model has.sound to.set set here 0) to.key short))
      (so_or_not (is_taken model outer given to) (Decides-taken model outer given to))

  -- a principal's set is one of the model's
  principal_set : (u : SetId) (entity : Entity) (to : PlacedKey) → Contains (principals model u entity) to → (set : EntitySet) × At model.sets to.set.index set
  principal_set u entity to asked =
      let asks : AsksFor model u entity to = asked_of model has.sound u entity to asked in
      let element = (sound_constraint model has.sound asks.assoc asks.constraint asks.is_assoc asks.constrained).lists.element in
      let P : PlacedKey → Type 0 = λ one. At model.sets one.set.index element.0 in
      (element.0, subst P (sym asks.is) element.1)

  pub support_fits : AreKeys model outer given keys
  support_fits = record {
    short = short_in;
    once = once_in;
    not_given = λ u key has_key_ entity one equal. support_free model outer given wanted (record { set = u; key = key }) (key_in keys u key has_key_) (inr (entity, one, equal));
    not_numbered = λ u key has_key_ number below equal. support_free model outer given wanted (record { set = u; key = key }) (key_in keys u key has_key_) (inl (number, below, equal));
    of_given = λ u entity one to asked. (let wanted_to = are_wanted.of_given u entity one to asked in
        let set = principal_set u entity to asked in
        there to set.0 set.1 (are_wanted.short to wanted_to) (support_wanted model outer given has wanted to wanted_to));
    of_keys = λ u set here key has_key_ to asked. (
        let from : PlacedKey = record { set = u; key = key } in
        let has_step : Contains (steps model outer from) to = subst (λ found. Contains (option_map_or (λ one. principals model u (plain model outer 0 one.element key)) found []) to) (sym here) asked in
        let to_set = principal_set u (plain model outer 0 set.element key) to asked in
        there to to_set.0 to_set.1 (step_short model outer has from to (short_in u key has_key_) has_step)
        (support_closed model outer given has wanted from to (key_in keys u key has_key_) has_step));
  }
