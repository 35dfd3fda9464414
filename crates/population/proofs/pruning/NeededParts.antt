-- The part of a state that holds what is needed: it is legal, holds the entities of needed keys and the links between them, and nothing else.
use Rattle.std.proofs.Common.{◌≡◌, ◌↔◌, ◌<◌, List, filter, Contains, Bool, sym, subst}
use Rattle.emc_base.specs.Lists.{At}
use Rattle.emc_base.proofs.Lists.{item_at}
use Rattle.emc_base.proofs.Mapped.{contains_filter}
use Rattle.emc_base.proofs.Numbered.{filter_contains}
use Rattle.round_trip.specs.Words.{SetId, AssocId, EntityModel, Assoc, Entity, Link, State, IsLegal, entities_in, links_in}
use Rattle.round_trip.specs.soundness.models.Models.{IsSoundModel}
use Rattle.population.specs.Kept.{AreAlikeAs, HoldsNeeded, is_needed, key_at_end, key_in, needed_keys, part_of}
use Rattle.population.specs.Numbered.{end_of}
use Rattle.population.specs.Principals.{PlacedKey}
use Rattle.population.proofs.pruning.Kept.{HasKeptEnd, entity_kept, link_kept, links_long}
use Rattle.population.proofs.pruning.KeptLegal.{entity_at, kept_legal}
use Rattle.population.proofs.pruning.Needed.{Decides-needed, needed_closed}
use Rattle.population.proofs.plain.Placed.{stands_within}

pub needed_parts : (model : EntityModel) → IsSoundModel model → (states : List State) → ((one : State) → Contains states one → IsLegal model one) → (roots : List PlacedKey)
    → (state : State) → Contains states state → IsLegal model (part_of model states roots state)
needed_parts model sound states legal roots state has =
    kept_legal model sound (is_needed model states roots) state (legal state has) (needed_closed model states roots sound legal state has)

module _ (model : EntityModel) (states : List State) (roots : List PlacedKey) where
  abbrev keys : List PlacedKey
  keys = needed_keys model states roots

  abbrev part : State → State
  part state = part_of model states roots state

  module _ (state : State) (legal : IsLegal model state) where
    entities_held : (u : SetId) (entity : Entity) → Contains (entities_in (part state) u) entity ↔ (Contains (entities_in state u) entity × Contains keys (key_in model u entity))
    entities_held u entity =
        let kept = entity_kept model (is_needed model states roots) state legal.shape u entity in
        let needed = Decides-needed model states roots u entity in
        (λ has. let both = kept.0 has in (both.0, needed.0 both.1), λ both. kept.1 (both.0, needed.1 both.1))

    -- an end of a link is kept where its key is needed
    end_held : (a : AssocId) (assoc : Assoc) → At model.assocs a.index assoc → (link : Link) → Contains (links_in state a) link → (first : Bool)
        → HasKeptEnd model (is_needed model states roots) state first assoc link ↔ Contains keys (key_at_end first assoc link)
    end_held a assoc here link has first =
        let u : SetId = (end_of first assoc).set in (
          (λ end.
              let same : key_in model u end.0 ≡ key_at_end first assoc link = λ k. record { set = u; key = end.3 k } in
              subst (Contains keys) same ((Decides-needed model states roots u end.0).0 end.2)),
          (λ needed.
              let found = entity_at model state legal a assoc here link has first in
              let same : key_at_end first assoc link ≡ key_in model u found.0 = λ k. record { set = u; key = sym found.3 k } in
              (found.0, found.1, (Decides-needed model states roots u found.0).1 (subst (Contains keys) same needed), found.3)),
        )

    links_held : (a : AssocId) (assoc : Assoc) → At model.assocs a.index assoc → (link : Link)
        → Contains (links_in (part state) a) link ↔ (Contains (links_in state a) link × ((first : Bool) → Contains keys (key_at_end first assoc link)))
    links_held a assoc here link =
        let kept = link_kept model (is_needed model states roots) state a assoc here link in (
          (λ has. let both = kept.0 has in (both.0, λ first. (end_held a assoc here link both.0 first).0 (both.1 first))),
          (λ both. kept.1 (both.0, λ first. (end_held a assoc here link both.0 first).1 (both.1 first))),
        )

    pub holds_needed : HoldsNeeded model states roots state
    holds_needed = record { entities = entities_held; links = links_held }

    -- the association of a link of the part is one of the model's
    pub assoc_there : (a : AssocId) (link : Link) → Contains (links_in (part state) a) link → (assoc : Assoc) × At model.assocs a.index assoc
    assoc_there a link has =
        item_at model.assocs a.index
        (subst (λ n. a.index < n) (links_long model (is_needed model states roots) state) (stands_within (part state).links a.index link has))

  -- what goes from the one state to the other goes from part to part
  module _ (one two : State) (legal_one : IsLegal model one) (legal_two : IsLegal model two) where
    entity_goes : (u : SetId) (entity : Entity) → (Contains (entities_in one u) entity → Contains (entities_in two u) entity)
        → Contains (entities_in (part one) u) entity → Contains (entities_in (part two) u) entity
    entity_goes u entity goes has = let both = (entities_held one legal_one u entity).0 has in (entities_held two legal_two u entity).1 (goes both.0, both.1)

    link_goes : (a : AssocId) (link : Link) → (Contains (links_in one a) link → Contains (links_in two a) link) → Contains (links_in (part one) a) link
        → Contains (links_in (part two) a) link
    link_goes a link goes has =
        let assoc = assoc_there one legal_one a link has in
        let both = (links_held one legal_one a assoc.0 assoc.1 link).0 has in
        (links_held two legal_two a assoc.0 assoc.1 link).1 (goes both.0, both.1)

    passing_goes : (test : Link → Bool) (a : AssocId) (link : Link) → (Contains (filter test (links_in one a)) link → Contains (filter test (links_in two a)) link)
        → Contains (filter test (links_in (part one) a)) link → Contains (filter test (links_in (part two) a)) link
    passing_goes test a link goes has =
        let both = filter_contains test (links_in (part one) a) link has in
        contains_filter test (links_in (part two) a) link
        (link_goes a link (λ stands. (filter_contains test (links_in two a) link (goes (contains_filter test (links_in one a) link stands both.1))).0) both.0) both.1

  pub are_alike : (one two : State) → IsLegal model one → IsLegal model two → AreAlikeAs model states roots one two
  are_alike one two legal_one legal_two = record {
    entities = λ u entity alike. (entity_goes one two legal_one legal_two u entity alike.0, entity_goes two one legal_two legal_one u entity alike.1);
    links = λ a link alike. (link_goes one two legal_one legal_two a link alike.0, link_goes two one legal_two legal_one a link alike.1);
    passing = λ test a link alike. (passing_goes one two legal_one legal_two test a link alike.0, passing_goes two one legal_two legal_one test a link alike.1);
  }
