-- What is needed in legal states is found in so many rounds as there are keys: the needed keys hold with each key what it needs.
use Rattle.std.proofs.Common.{◌≡◌, ◌≢◌, ⊎_elim, ℕ, ◌<◌, ◌+◌, ◌==◌, ◌&&◌, List, [], ◌++◌, map, filter, flat_map, length, All, Contains, Bool, true, false, not, Decides, refl, sym, subst, ◌∙◌, suc, arith}
use Rattle.std.specs.List.{enumerate_from}
use Rattle.std.proofs.lemmas.Bool.{cond-true, cond_both}
use Rattle.std.proofs.lemmas.Bool.Decides.{Decides-and}
use Rattle.std.proofs.lemmas.List.Elements.{All-contains, Contains-append_cases, Contains-append_left, Contains-append_right}
use Rattle.std.proofs.lemmas.Option.{slice_get_within}
use Rattle.emc_base.specs.Lists.{At}
use Rattle.emc_base.proofs.FoundItems.{contains_flat_map}
use Rattle.emc_base.proofs.Joined.{in_flat_map}
use Rattle.emc_base.proofs.Mapped.{contains_enumerated, contains_filter, contains_map}
use Rattle.emc_base.proofs.Members.{contains_nil, in_map}
use Rattle.emc_base.proofs.Numbered.{enumerated_at, filter_contains}
use Rattle.edm_types.specs.declared.model.Mult.TheVariants.{One, ZeroOrOne, Many}
use Rattle.round_trip.specs.Words.{SetId, AssocId, Value, Null, EntityModel, Assoc, Constraint, Entity, Link, Mult, State, HasPrincipal, IsA, IsLegal, dependent_end, entities_in, key_of, links_in, principal_end, values_of}
use Rattle.round_trip.specs.soundness.models.Models.{IsSoundModel}
use Rattle.schema_laws.specs.short_values.Numbers.{numbers_from}
use Rattle.schema_laws.specs.state_demand.MadeTables.{distinct}
use Rattle.schema_laws.specs.state_demand.Selecting.{same_key}
use Rattle.schema_laws.proofs.state_demand.lists.Distinct.{contains_distinct, distinct_apart, member_of_distinct}
use Rattle.schema_laws.proofs.state_demand.lists.Ids.{Decides-set}
use Rattle.schema_laws.proofs.state_demand.lists.Lists.{of_any}
use Rattle.schema_laws.proofs.state_demand.writings.Selecting.{Decides-key}
use Rattle.population.specs.Kept.{AreNeeded, HoldsNeeds, IsClosed, at_key, is_needed, key_at_end, key_in, keys_of_state, needed_keys, needs, needs_in, partners_at, partners_by}
use Rattle.population.specs.Numbered.{end_of}
use Rattle.population.specs.Principals.{AsksFor, PlacedKey, principals}
use Rattle.population.specs.Support.{same_placed}
use Rattle.population.specs.Supported.{end_key, is_one}
use Rattle.population.proofs.principals.Asked.{asked_of}
use Rattle.population.proofs.pruning.KeptLegal.{entity_at}
use Rattle.population.proofs.supporting.Least.{Decides-among, grown_closed, grown_holds, grown_least}
use Rattle.population.proofs.plain.Lists.{number_there}
use Rattle.population.proofs.plain.Placed.{Decides-placed, place_of, set_there}
use Rattle.population.proofs.principals.PrincipalKeys.{principal_has_key, sound_constraint}

pub Decides-one : (mult : Mult) → Decides (is_one mult) (mult ≡ One)
Decides-one One = (λ told. refl, λ is. refl)
Decides-one ZeroOrOne = (λ told. absurd (let never : false ≡ true = told in cc), λ is. absurd cc)
Decides-one Many = (λ told. absurd (let never : false ≡ true = told in cc), λ is. absurd cc)

module _ (model : EntityModel) (state : State) where
  -- the partners that an end asks for, and no others
  pub partner_cases : (placed : PlacedKey) (first : Bool) (a : AssocId) (assoc : Assoc) (to : PlacedKey) → Contains (partners_by model state placed first a assoc) to
      → (link : Link) × Contains (links_in state a) link × (to ≡ key_at_end (not first) assoc link)
  partner_cases placed first a assoc to =
      let asked : Bool = is_one (end_of (not first) assoc).mult && ((end_of first assoc).set.index == placed.set.index) in
      let own : List Link = filter (λ link. same_key (end_key first link) placed.key) (links_in state a) in
      cond_both asked (map (key_at_end (not first) assoc) own) [] (λ list. Contains list to → (link : Link) × Contains (links_in state a) link × (to ≡ key_at_end (not first) assoc link))
      (λ told has.
      let found = in_map (key_at_end (not first) assoc) own to has in
      (found.0, (filter_contains (λ link. same_key (end_key first link) placed.key) (links_in state a) found.0 found.1).0, sym found.2))
      (λ told has. absurd (contains_nil to has))

  pub partner_there : (first : Bool) (a : AssocId) (assoc : Assoc) → (end_of (not first) assoc).mult ≡ One → (link : Link) → Contains (links_in state a) link
      → Contains (partners_by model state (key_at_end first assoc link) first a assoc) (key_at_end (not first) assoc link)
  partner_there first a assoc one link has =
      let u : SetId = (end_of first assoc).set in
      let own : Link → Bool = λ some. same_key (end_key first some) (end_key first link) in
      let asked = Decides-and (is_one (end_of (not first) assoc).mult) (u.index == u.index) (Decides-one (end_of (not first) assoc).mult) (Decides-set u u) in
      subst (λ list. Contains list (key_at_end (not first) assoc link))
      (sym (cond-true (is_one (end_of (not first) assoc).mult && (u.index == u.index)) (map (key_at_end (not first) assoc) (filter own (links_in state a))) [] (asked.1 (one, refl))))
      (contains_map (key_at_end (not first) assoc) (filter own (links_in state a)) link
      (contains_filter own (links_in state a) link has ((Decides-key (end_key first link) (end_key first link)).1 refl)))

  -- the key of an entity of the state is one of the state's
  pub key_stands : IsLegal model state → (u : SetId) (entity : Entity) → Contains (entities_in state u) entity → Contains (keys_of_state model state) (key_in model u entity)
  key_stands legal u entity has =
      let set = set_there model state legal.shape u entity has in
      let within : u.index < 0 + length model.sets = let inside = slice_get_within model.sets u.index set.0 set.1 in omega (arith, inside) in
      contains_flat_map (λ n. map (key_in model (record { index = n })) (entities_in state (record { index = n }))) (numbers_from 0 (length model.sets)) u.index (key_in model u entity)
      (number_there 0 (length model.sets) u.index (omega arith) within)
      (contains_map (key_in model u) (entities_in state u) entity has)

  module _ (sound : IsSoundModel model) (legal : IsLegal model state) where
    -- what an entity asks for is the key of an entity
    asked_stands : (u : SetId) (entity : Entity) → Contains (entities_in state u) entity → (to : PlacedKey) → AsksFor model u entity to → Contains (keys_of_state model state) to
    asked_stands u entity stands to asks =
        let assoc : Assoc = asks.assoc in
        let constraint : Constraint = asks.constraint in
        let from : SetId = (dependent_end assoc constraint).set in
        let over : SetId = (principal_end assoc constraint).set in
        let values : List Value = values_of model entity constraint.dependent in
        let HasValues : Entity → Type 0 = λ one. values_of model one constraint.principal ≡ values in
        let Has : Entity → Type 0 = λ one. IsA model one.ty (dependent_end assoc constraint).ty
        → All (λ value. value ≢ Null) (values_of model one constraint.dependent) → HasPrincipal model state assoc constraint (values_of model one constraint.dependent) in
        let place = place_of model.assocs assoc asks.is_assoc in
        let here : Contains (entities_in state from) entity = subst (λ v. Contains (entities_in state v) entity) (sym asks.at_end) stands in
        let found = of_any HasValues (entities_in state over)
        (All-contains Has (entities_in state from) entity (legal.principals (record { index = place.0 }) assoc constraint place.1 asks.constrained) here asks.covers asks.there) in
        let keyed = principal_has_key model sound state legal assoc constraint (sound_constraint model sound assoc constraint asks.is_assoc asks.constrained) found.0 found.1 values found.2 in
        let same : key_in model over found.0 ≡ to = (λ k. record { set = over; key = keyed k }) ∙ sym asks.is in
        subst (Contains (keys_of_state model state)) same (key_stands legal over found.0 found.1)

    partner_stands : (placed : PlacedKey) (first : Bool) (a : AssocId) (assoc : Assoc) → At model.assocs a.index assoc → (to : PlacedKey)
        → Contains (partners_by model state placed first a assoc) to → Contains (keys_of_state model state) to
    partner_stands placed first a assoc here to has =
        let by = partner_cases placed first a assoc to has in
        let other = entity_at model state legal a assoc here by.0 by.1 (not first) in
        let same : key_in model (end_of (not first) assoc).set other.0 ≡ to = (λ k. record { set = (end_of (not first) assoc).set; key = other.3 k }) ∙ sym by.2 in
        subst (Contains (keys_of_state model state)) same (key_stands legal (end_of (not first) assoc).set other.0 other.1)

    -- what is needed are keys of entities
    pub needs_stand : (placed to : PlacedKey) → Contains (needs model state placed) to → Contains (keys_of_state model state) to
    needs_stand placed to has =
        let entities : List Entity = at_key model state placed in
        let over : List PlacedKey = flat_map (principals model placed.set) entities in
        let beside : List PlacedKey = flat_map (partners_at model state placed) (enumerate_from 0 model.assocs) in
        ⊎_elim
        (λ (one : Contains over to).
        let by = in_flat_map (principals model placed.set) entities to one in
        asked_stands placed.set by.0 (filter_contains (λ entity. same_key (key_of model entity) placed.key) (entities_in state placed.set) by.0 by.1).0 to
        (asked_of model sound placed.set by.0 to by.2))
        (λ (one : Contains beside to).
        let by = in_flat_map (partners_at model state placed) (enumerate_from 0 model.assocs) to one in
        let a : AssocId = record { index = by.0.0 } in
        let here : At model.assocs a.index by.0.1 = enumerated_at model.assocs by.0 by.1 in
        ⊎_elim
        (partner_stands placed true a by.0.1 here to)
        (partner_stands placed false a by.0.1 here to)
        (Contains-append_cases (partners_by model state placed true a by.0.1) (partners_by model state placed false a by.0.1) to by.2))
        (Contains-append_cases over beside to has)

  -- the principals of an entity are needed by its key
  pub principal_needed : (u : SetId) (entity : Entity) → Contains (entities_in state u) entity → (to : PlacedKey) → Contains (principals model u entity) to
      → Contains (needs model state (key_in model u entity)) to
  principal_needed u entity stands to has =
      let entities : List Entity = at_key model state (key_in model u entity) in
      Contains-append_left (flat_map (principals model u) entities) (flat_map (partners_at model state (key_in model u entity)) (enumerate_from 0 model.assocs)) to
      (contains_flat_map (principals model u) entities entity to
      (contains_filter (λ one. same_key (key_of model one) (key_of model entity)) (entities_in state u) entity stands ((Decides-key (key_of model entity) (key_of model entity)).1 refl)) has)

  -- and so are the partners that ends `1` ask of it
  pub partner_needed : (a : AssocId) (assoc : Assoc) → At model.assocs a.index assoc → (first : Bool) → (end_of (not first) assoc).mult ≡ One
      → (link : Link) → Contains (links_in state a) link → Contains (needs model state (key_at_end first assoc link)) (key_at_end (not first) assoc link)
  partner_needed a assoc here first one link has =
      let placed : PlacedKey = key_at_end first assoc link in
      Contains-append_right (flat_map (principals model placed.set) (at_key model state placed)) (flat_map (partners_at model state placed) (enumerate_from 0 model.assocs))
      (key_at_end (not first) assoc link)
      (contains_flat_map {X = ℕ × Assoc} (partners_at model state placed) (enumerate_from 0 model.assocs) (a.index, assoc) (key_at_end (not first) assoc link)
      (contains_enumerated model.assocs a.index assoc here) (at first (partner_there first a assoc one link has)))
    where
      at : (side : Bool) → Contains (partners_by model state (key_at_end first assoc link) side a assoc) (key_at_end (not first) assoc link)
          → Contains (partners_at model state (key_at_end first assoc link) (a.index, assoc)) (key_at_end (not first) assoc link)
      at true has_one = Contains-append_left (partners_by model state (key_at_end first assoc link) true a assoc) (partners_by model state (key_at_end first assoc link) false a assoc)
          (key_at_end (not first) assoc link) has_one
      at false has_one = Contains-append_right (partners_by model state (key_at_end first assoc link) true a assoc) (partners_by model state (key_at_end first assoc link) false a assoc)
          (key_at_end (not first) assoc link) has_one

module _ (model : EntityModel) (states : List State) (roots : List PlacedKey) where
  abbrev keys : List PlacedKey
  keys = needed_keys model states roots

  abbrev all : List PlacedKey
  all = roots ++ flat_map (keys_of_state model) states

  -- an entity is needed where its key is
  pub Decides-needed : (u : SetId) (entity : Entity) → Decides (is_needed model states roots u entity) (Contains keys (key_in model u entity))
  Decides-needed u entity = Decides-among same_placed Decides-placed keys (key_in model u entity)

  -- the roots are needed
  pub root_needed : (root : PlacedKey) → Contains roots root → Contains keys root
  root_needed root has =
      grown_holds same_placed Decides-placed (needs_in model states) (suc (length all)) (distinct same_placed roots) root (contains_distinct same_placed Decides-placed roots root has)

  -- and nothing but what they lead to
  pub needed_least : (others : List PlacedKey) → HoldsNeeds model states roots others → (placed : PlacedKey) → Contains keys placed → Contains others placed
  needed_least others holds =
      grown_least same_placed Decides-placed (needs_in model states) (Contains others) holds.leads (suc (length all)) (distinct same_placed roots)
      (λ root has. holds.holds root (member_of_distinct same_placed Decides-placed roots root has))

  module _ (sound : IsSoundModel model) (legal : (one : State) → Contains states one → IsLegal model one) where
    -- what a needed key needs is needed
    pub needed_leads : (from to : PlacedKey) → Contains keys from → Contains (needs_in model states from) to → Contains keys to
    needed_leads =
        let items : List PlacedKey = distinct same_placed roots in
        grown_closed same_placed Decides-placed (needs_in model states) all
        (λ from to has leads.
        let by = in_flat_map (λ state. needs model state from) states to leads in
        Contains-append_right roots (flat_map (keys_of_state model) states) to
        (contains_flat_map (keys_of_state model) states by.0 to by.1 (needs_stand model by.0 sound (legal by.0 by.1) from to by.2)))
        (suc (length all)) items (distinct_apart same_placed Decides-placed roots)
        (λ root has. Contains-append_left roots (flat_map (keys_of_state model) states) root (member_of_distinct same_placed Decides-placed roots root has))
        (omega arith)

    are_needed : AreNeeded model states roots
    are_needed = record { needs = record { holds = root_needed; leads = needed_leads }; least = needed_least }

    -- what is needed is closed in each of the states
    pub needed_closed : (state : State) → Contains states state → IsClosed model (is_needed model states roots) state
    needed_closed state has =
        let leads : (from to : PlacedKey) → Contains keys from → Contains (needs model state from) to → Contains keys to =
        λ from to stands needed. needed_leads from to stands (contains_flat_map (λ one. needs model one from) states state to has needed) in
        record {
          principal = λ u entity to other asks kept.
              let from = (Decides-needed u entity).0 kept in
              let same : to ≡ key_in model to.set other = λ k. record { set = to.set; key = sym asks.other_key k } in
              (Decides-needed to.set other).1 (subst (Contains keys) same (leads (key_in model u entity) to from (principal_needed model state u entity asks.stands to asks.asks)));
          partner = λ first assoc entity other asks kept.
              let u : SetId = (end_of first assoc).set in
              let v : SetId = (end_of (not first) assoc).set in
              let here_is : key_in model u entity ≡ key_at_end first assoc asks.link = λ k. record { set = u; key = asks.at_key k } in
              let there_is : key_at_end (not first) assoc asks.link ≡ key_in model v other = λ k. record { set = v; key = sym asks.other_key k } in
              let from = subst (Contains keys) here_is ((Decides-needed u entity).0 kept) in
              (Decides-needed v other).1 (subst (Contains keys) there_is
              (leads (key_at_end first assoc asks.link) (key_at_end (not first) assoc asks.link) from
              (partner_needed model state asks.a assoc asks.is_assoc first asks.one asks.link asks.is_link)));
        }

pub needed_keys_least : (model : EntityModel) → IsSoundModel model → (states : List State) → ((one : State) → Contains states one → IsLegal model one) → (roots : List PlacedKey)
    → AreNeeded model states roots
needed_keys_least model sound states legal roots = are_needed model states roots sound legal
