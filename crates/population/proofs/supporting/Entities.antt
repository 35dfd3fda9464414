-- The entities of a supported state: they keep the rules on types and values, and no two of a set have one key.
use Rattle.std.proofs.Common.{◌≡◌, ◌≢◌, ⊎_elim, ℕ, zero, suc, ◌<◌, List, [], ◌++◌, map, length, slice_get, get_or, All, AllPairs, Contains, Option, Some, None, refl, sym, ap, subst, ◌∙◌, arith}
use Rattle.std.specs.Option.{option_map_or}
use Rattle.std.proofs.lemmas.List.Elements.{Contains-append_cases, Contains-append_left, Contains-append_right, Contains-get_or}
use Rattle.std.proofs.lemmas.List.Kept.{AllPairs-cons}
use Rattle.std.proofs.lemmas.Option.{slice_get_past}
use Rattle.emc_base.proofs.Joined.{apart-append}
use Rattle.emc_base.proofs.Lists.{all_from_members}
use Rattle.emc_base.proofs.Mapped.{contains_map}
use Rattle.emc_base.proofs.Members.{contains_nil}
use Rattle.emc_base.proofs.Numbered.{all_pairs_map, map_contains}
use Rattle.round_trip.specs.Words.{SetId, AssocId, Value, EntityModel, EntitySet, Entity, At, HasFittingType, HasAllowedNulls, HasValuesInDomain, IsEntity, IsLegalSet, entities_in, key_of, key_props, links_in}
use Rattle.edm_types.specs.IsA.{same as itself}
use Rattle.round_trip.specs.soundness.Lookups.{HasConcrete, IsUnderElement, set_key}
use Rattle.emc_base.specs.Lists.{AreApart}
use Rattle.schema_laws.specs.short_values.Numbers.{numbers_from}
use Rattle.schema_laws.proofs.sound_demand.Keys.{inherits_keys}
use Rattle.population.specs.Given.{AreGiven, AreKeys, HasNumbers, StandsWell}
use Rattle.population.specs.Numbered.{all_numbered, number_count, numbered, numbered_key}
use Rattle.population.specs.Plain.{plain}
use Rattle.population.specs.Principals.{PlacedKey}
use Rattle.population.specs.Supported.{Placed, PlacedLink, all_in, all_links, given_in, keys_in, linked_in, links_of, stands_in, supported}
use Rattle.population.proofs.plain.Lists.{made_at, number_there, number_within}
use Rattle.population.proofs.plain.Numbered.{asked_concrete, number_small, numbered_has, numbered_once, numbered_well, set_key_is}
use Rattle.population.proofs.plain.Plain.{has_key, plain_well}

-- numbers in a row are different
pub numbers_apart : (first n : ℕ) → AreApart (numbers_from first n)
numbers_apart first zero = λ i j d below within. absurd (omega (arith, within))
numbers_apart first (suc n) = AllPairs-cons (λ a b. a ≢ b) first (numbers_from (suc first) n)
    (all_from_members (λ k. first ≢ k) (numbers_from (suc first) n) (λ k has is. let within = number_within (suc first) n k has in absurd (omega (arith, within.0, is))))
    (numbers_apart (suc first) n)

-- those from zero on are just the smaller ones
pub smaller : (n k : ℕ) → Contains (numbers_from 0 n) k → k < n
smaller n k has = let within = number_within 0 n k has in let below = within.1 in omega (arith, below)

pub smaller_there : (n k : ℕ) → k < n → Contains (numbers_from 0 n) k
smaller_there n k below = number_there 0 n k (omega arith) (omega (arith, below))

module _ (model : EntityModel) (outer : ℕ) (given : List Placed) (keys : List PlacedKey) where
  -- in the state stand just those that are told
  pub entities_are : (links : List PlacedLink) (u : SetId) → entities_in (supported model outer given keys links) u ≡ stands_in model outer given keys u
  entities_are links u = made_at (λ n. stands_in model outer given keys (record { index = n })) (length model.sets) u.index
      (λ past. ap (λ found. option_map_or (all_in model outer given keys u) found []) (slice_get_past model.sets u.index past))

  pub links_are : (links : List PlacedLink) (a : AssocId) → links_in (supported model outer given keys links) a ≡ linked_in model outer given keys links a
  links_are links a = made_at (λ n. linked_in model outer given keys links (record { index = n })) (length model.assocs) a.index
      (λ past. ap (λ found. option_map_or (all_links model outer given keys a (links_of links a)) found []) (slice_get_past model.assocs a.index past))

  module _ (u : SetId) (set : EntitySet) (here : At model.sets u.index set) where
    pub stands_are : stands_in model outer given keys u ≡ all_in model outer given keys u set
    stands_are = ap (λ found. option_map_or (all_in model outer given keys u) found []) here

    -- an entity that stands there is that of a number, a given one, or the plain one of a key
    pub data Stands : Entity → Type 0 where
      of_number : (number : ℕ) → number < number_count model → Stands (numbered model outer u set number)
      of_given : (entity : Entity) → Contains (given_in given u) entity → Stands entity
      of_key : (key : List Value) → Contains (keys_in keys u) key → Stands (plain model outer 0 set.element key)

    pub stands_cases : (entity : Entity) → Contains (stands_in model outer given keys u) entity → Stands entity
    stands_cases entity has = ⊎_elim
        (λ (one : Contains (all_numbered model outer u set) entity).
        let found = map_contains (numbered model outer u set) (numbers_from 0 (number_count model)) entity one in
        subst Stands found.2 (of_number found.0 (smaller (number_count model) found.0 found.1)))
        (λ (rest : Contains (given_in given u ++ map (plain model outer 0 set.element) (keys_in keys u)) entity). ⊎_elim
        (λ (one : Contains (given_in given u) entity). of_given entity one)
        (λ (one : Contains (map (plain model outer 0 set.element) (keys_in keys u)) entity).
        let found = map_contains (plain model outer 0 set.element) (keys_in keys u) entity one in subst Stands found.2 (of_key found.0 found.1))
        (Contains-append_cases (given_in given u) (map (plain model outer 0 set.element) (keys_in keys u)) entity rest))
        (Contains-append_cases (all_numbered model outer u set) (given_in given u ++ map (plain model outer 0 set.element) (keys_in keys u)) entity
        (subst (λ list. Contains list entity) stands_are has))

    there : (entity : Entity) → Contains (all_in model outer given keys u set) entity → Contains (stands_in model outer given keys u) entity
    there entity has = subst (λ list. Contains list entity) (sym stands_are) has

    -- each of them stands
    pub number_stands : (number : ℕ) → number < number_count model → Contains (stands_in model outer given keys u) (numbered model outer u set number)
    number_stands number below =
        there (numbered model outer u set number)
        (Contains-append_left (all_numbered model outer u set) (given_in given u ++ map (plain model outer 0 set.element) (keys_in keys u)) (numbered model outer u set number)
        (contains_map (numbered model outer u set) (numbers_from 0 (number_count model)) number (smaller_there (number_count model) number below)))

    pub given_stands : (entity : Entity) → Contains (given_in given u) entity → Contains (stands_in model outer given keys u) entity
    given_stands entity has =
        there entity
        (Contains-append_right (all_numbered model outer u set) (given_in given u ++ map (plain model outer 0 set.element) (keys_in keys u)) entity
        (Contains-append_left (given_in given u) (map (plain model outer 0 set.element) (keys_in keys u)) entity has))

    pub key_stands : (key : List Value) → Contains (keys_in keys u) key → Contains (stands_in model outer given keys u) (plain model outer 0 set.element key)
    key_stands key has =
        there (plain model outer 0 set.element key)
        (Contains-append_right (all_numbered model outer u set) (given_in given u ++ map (plain model outer 0 set.element) (keys_in keys u)) (plain model outer 0 set.element key)
        (Contains-append_right (given_in given u) (map (plain model outer 0 set.element) (keys_in keys u)) (plain model outer 0 set.element key)
        (contains_map (plain model outer 0 set.element) (keys_in keys u) key has)))

  -- nothing stands in a set that the model hasn't
  pub set_there : (u : SetId) (entity : Entity) → Contains (stands_in model outer given keys u) entity → (set : EntitySet) × At model.sets u.index set
  set_there u entity has = by (slice_get model.sets u.index) refl has
    where
      by : (found : Option EntitySet) → slice_get model.sets u.index ≡ found → Contains (option_map_or (all_in model outer given keys u) found []) entity
          → (set : EntitySet) × At model.sets u.index set
      by None none in_none = absurd (contains_nil entity in_none)
      by (Some set) here in_some = (set, here)

module _ (model : EntityModel) (outer : ℕ) (has : HasNumbers model outer) (given : List Placed) (keys : List PlacedKey) (are_given : AreGiven model outer given)
    (are_keys : AreKeys model outer given keys) where
  module _ (u : SetId) (set : EntitySet) (here : At model.sets u.index set) where
    abbrev At_set : Entity → Type 0
    At_set entity = Stands model outer given keys u set here entity

    element_concrete : HasConcrete model set.element
    element_concrete = asked_concrete model has.sound u set here 0

    element_under : IsUnderElement model u set.element
    element_under = (set, here, itself set.element)

    zero_below : 0 < number_count model
    zero_below = omega arith

    -- the plain entity of a key
    pub key_has : (key : List Value) → Contains (keys_in keys u) key → key_of model (plain model outer 0 set.element key) ≡ key
    key_has key there = has_key model has.sound outer 0 has.row (number_small model outer has 0 zero_below) u set.element element_concrete element_under key (are_keys.short u key there)

    key_well : (key : List Value) → Contains (keys_in keys u) key → StandsWell model u (plain model outer 0 set.element key)
    key_well key there = plain_well model has.sound outer 0 has.row (number_small model outer has 0 zero_below) u set.element element_concrete element_under key (are_keys.short u key there)

    -- each keeps the rules on types and values
    pub well : (entity : Entity) → At_set entity → StandsWell model u entity
    well _ (of_number number below) = numbered_well model outer has u set here number below
    well _ (of_given entity one) = are_given.well u entity one
    well _ (of_key key one) = key_well key one

    -- S4
    abbrev Differ : Entity → Entity → Type 0
    Differ x y = key_of model x ≢ key_of model y

    numbered_differ : AllPairs Differ (all_numbered model outer u set)
    numbered_differ = all_pairs_map Differ (numbered model outer u set) (numbers_from 0 (number_count model)) (λ i j d below within same.
        let ns : List ℕ = numbers_from 0 (number_count model) in
        let at_i = smaller (number_count model) (get_or ns i d) (Contains-get_or ns i d (omega (arith, below, within))) in
        let at_j = smaller (number_count model) (get_or ns j d) (Contains-get_or ns j d within) in
        numbers_apart 0 (number_count model) i j d below within (numbered_once model outer has u set here (get_or ns i d) (get_or ns j d)
        (sym (numbered_has model outer has u set here (get_or ns i d) at_i) ∙ same ∙ numbered_has model outer has u set here (get_or ns j d) at_j)))

    keys_differ : AllPairs Differ (map (plain model outer 0 set.element) (keys_in keys u))
    keys_differ = all_pairs_map Differ (plain model outer 0 set.element) (keys_in keys u) (λ i j d below within same.
        let list : List (List Value) = keys_in keys u in
        are_keys.once u i j d below within
        (sym (key_has (get_or list i d) (Contains-get_or list i d (omega (arith, below, within)))) ∙ same ∙ key_has (get_or list j d) (Contains-get_or list j d within)))

    given_and_keys : (x : Entity) → Contains (given_in given u) x → (y : Entity) → Contains (map (plain model outer 0 set.element) (keys_in keys u)) y → Differ x y
    given_and_keys x has_x y has_y same =
        let found = map_contains (plain model outer 0 set.element) (keys_in keys u) y has_y in
        are_keys.not_given u found.0 found.1 x has_x (same ∙ ap (key_of model) (sym found.2) ∙ key_has found.0 found.1)

    numbered_and : (x : Entity) → Contains (all_numbered model outer u set) x → (y : Entity)
        → Contains (given_in given u ++ map (plain model outer 0 set.element) (keys_in keys u)) y → Differ x y
    numbered_and x has_x y has_y same =
        let found = map_contains (numbered model outer u set) (numbers_from 0 (number_count model)) x has_x in
        let below = smaller (number_count model) found.0 found.1 in
        let is : key_of model x ≡ numbered_key model outer u found.0 = ap (key_of model) (sym found.2) ∙ numbered_has model outer has u set here found.0 below in
        ⊎_elim
        (λ (one : Contains (given_in given u) y). are_given.not_numbered u y one found.0 below (sym same ∙ is))
        (λ (one : Contains (map (plain model outer 0 set.element) (keys_in keys u)) y).
        let other = map_contains (plain model outer 0 set.element) (keys_in keys u) y one in
        are_keys.not_numbered u other.0 other.1 found.0 below (sym (key_has other.0 other.1) ∙ ap (key_of model) other.2 ∙ sym same ∙ is))
        (Contains-append_cases (given_in given u) (map (plain model outer 0 set.element) (keys_in keys u)) y has_y)

    all_differ : AllPairs Differ (all_in model outer given keys u set)
    all_differ =
        let plains : List Entity = map (plain model outer 0 set.element) (keys_in keys u) in
        apart-append Differ (all_numbered model outer u set) (given_in given u ++ plains) numbered_differ
        (apart-append Differ (given_in given u) plains (are_given.apart u) keys_differ
        (all_from_members (λ x. All (Differ x) plains) (given_in given u) (λ x has_x. all_from_members (Differ x) plains (given_and_keys x has_x))))
        (all_from_members (λ x. All (Differ x) (given_in given u ++ plains)) (all_numbered model outer u set)
        (λ x has_x. all_from_members (Differ x) (given_in given u ++ plains) (numbered_and x has_x)))

    pub differ : AllPairs Differ (stands_in model outer given keys u)
    differ = subst (AllPairs Differ) (sym (stands_are model outer given keys u set here)) all_differ

    -- S1 to S4
    pub legal_set : IsLegalSet model set (stands_in model outer given keys u)
    legal_set =
        let list : List Entity = stands_in model outer given keys u in
        let each : (entity : Entity) → Contains list entity → StandsWell model u entity = λ entity stands. well entity (stands_cases model outer given keys u set here entity stands) in
        record {
          types = all_from_members (HasFittingType model set) list (λ entity stands. (each entity stands).fits set here);
          nulls = all_from_members (HasAllowedNulls model) list (λ entity stands. (each entity stands).nulls);
          domains = all_from_members (HasValuesInDomain model) list (λ entity stands. (each entity stands).domains);
          keys = differ;
        }

  -- each entity is one, with the key of its set
  pub is_entity : (u : SetId) (entity : Entity) → Contains (stands_in model outer given keys u) entity → IsEntity model entity
  is_entity u entity stands =
      let in_set = set_there model outer given keys u entity stands in
      (well u in_set.0 in_set.1 entity (stands_cases model outer given keys u in_set.0 in_set.1 entity stands)).is_entity

  pub has_set_key : (u : SetId) (entity : Entity) → Contains (stands_in model outer given keys u) entity → key_props model entity.ty ≡ set_key model u
  has_set_key u entity stands =
      let in_set = set_there model outer given keys u entity stands in
      let fits = (well u in_set.0 in_set.1 entity (stands_cases model outer given keys u in_set.0 in_set.1 entity stands)).fits in_set.0 in_set.1 in
      (inherits_keys model has.sound).same entity.ty in_set.0.element fits.under ∙ sym (set_key_is model has.sound u in_set.0 in_set.1)
