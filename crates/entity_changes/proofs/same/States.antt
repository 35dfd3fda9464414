-- What changes lead to is a state of the model.
use Rattle.std.proofs.Common.{◌≡◌, ⊎_elim, List, [], ◌∷◌, ◌++◌, map, filter, not, All, Bool, true, false, if◌then◌else◌, sym, subst, ◌∙◌}
use Rattle.std.proofs.lemmas.List.Elements.{All-contains, All-head, All-push, All-tail}
use Rattle.emc_base.proofs.Lists.{all_from_members, at_once}
use Rattle.emc_base.proofs.Numbered.{filter_contains, map_contains}
use Rattle.round_trip.specs.Words.{SetId, AssocId, EntityModel, Assoc, Entity, Link, At, State, IsEntity, IsLink, IsState, entities_in, links_in, key_of}
use Rattle.schema_laws.specs.state_demand.Selecting.{same_key}
use Rattle.entity_changes.specs.declared.change.Change.{Change}
use Rattle.entity_changes.specs.declared.change.Change.TheVariants as change
use Rattle.entity_changes.specs.Changes.{after, after_one, same_link, with_entities, with_links, IsChange}
use Rattle.entity_changes.proofs.Afterwards.{entities_cases, length-entities, length-links, links_cases}

module _ {X : Type 0} (P : X → Type 0) where
  -- what holds of all items holds of those that are left
  pub all_left : (p : X → Bool) (xs : List X) → All P xs → All P (filter p xs)
  all_left p xs all = all_from_members P (filter p xs) (λ x has. All-contains P xs x all (filter_contains p xs x has).0)

  -- and of them with another in place of some
  pub all_put : (p : X → Bool) (x : X) (xs : List X) → P x → All P xs → All P (map (λ old. if p old then x else old) xs)
  all_put p x xs holds all =
      let put : X → X = λ old. if p old then x else old in
      all_from_members P (map put xs) (λ y has.
      let from = map_contains put xs y has in
      subst P from.2 (either from.0 (p from.0) (All-contains P xs from.0 all from.1)))
    where
      either : (old : X) (b : Bool) → P old → P (if b then x else old)
      either old true here = holds
      either old false here = here

module _ (model : EntityModel) (state : State) (is : IsState model state) where
  -- a state with other entities in a set, or other links in an association set
  with_other_entities : (s : SetId) (entities : List Entity) → All (IsEntity model) entities → (t : SetId) → All (IsEntity model) (entities_in (with_entities state s entities) t)
  with_other_entities s entities all t = ⊎_elim
      (λ (kept : entities_in (with_entities state s entities) t ≡ entities_in state t). subst (All (IsEntity model)) (sym kept) (is.entities t))
      (λ (put : (s ≡ t) × (entities_in (with_entities state s entities) t ≡ entities)). subst (All (IsEntity model)) (sym put.1) all)
      (entities_cases state s entities t)

  with_other_links : (a : AssocId) (links : List Link) → ((assoc : Assoc) → At model.assocs a.index assoc → All (IsLink model assoc) links)
      → (b : AssocId) (assoc : Assoc) → At model.assocs b.index assoc → All (IsLink model assoc) (links_in (with_links state a links) b)
  with_other_links a links all b assoc here = ⊎_elim
      (λ (kept : links_in (with_links state a links) b ≡ links_in state b). subst (All (IsLink model assoc)) (sym kept) (is.links b assoc here))
      (λ (put : (a ≡ b) × (links_in (with_links state a links) b ≡ links)).
      subst (All (IsLink model assoc)) (sym put.1) (all assoc (subst (λ (c : AssocId). At model.assocs c.index assoc) (sym put.0) here)))
      (links_cases state a links b)

  -- one change leads to a state
  entities_after : (one : Change) → IsChange model one → (t : SetId) → All (IsEntity model) (entities_in (after_one model state one) t)
  entities_after (change.Insert s entity) good = with_other_entities s (entities_in state s ++ entity ∷ [])
      (All-push (IsEntity model) (entities_in state s) entity (is.entities s) good.1)
  entities_after (change.Update s entity) good = with_other_entities s _
      (all_put (IsEntity model) (λ old. same_key (key_of model old) (key_of model entity)) entity (entities_in state s) good.1 (is.entities s))
  entities_after (change.Delete s key) good = with_other_entities s _
      (all_left (IsEntity model) (λ old. not (same_key (key_of model old) key)) (entities_in state s) (is.entities s))
  entities_after (change.Link a link) good = is.entities
  entities_after (change.Unlink a link) good = is.entities

  links_after : (one : Change) → IsChange model one → (b : AssocId) (assoc : Assoc) → At model.assocs b.index assoc → All (IsLink model assoc) (links_in (after_one model state one) b)
  links_after (change.Insert s entity) good = is.links
  links_after (change.Update s entity) good = is.links
  links_after (change.Delete s key) good = is.links
  links_after (change.Link a link) good = with_other_links a (links_in state a ++ link ∷ [])
      (λ assoc here. All-push (IsLink model assoc) (links_in state a) link (is.links a assoc here) (of_assoc assoc here))
    where
      of_assoc : (assoc : Assoc) → At model.assocs a.index assoc → IsLink model assoc link
      of_assoc assoc here = subst (λ (one : Assoc). IsLink model one link) (at_once model.assocs a.index good.0 assoc good.1 here) good.2
  links_after (change.Unlink a link) good = with_other_links a _
      (λ assoc here. all_left (IsLink model assoc) (λ old. not (same_link old link)) (links_in state a) (is.links a assoc here))

  pub one_more_state : (one : Change) → IsChange model one → IsState model (after_one model state one)
  one_more_state one good = record {
    sets = length-entities model state one ∙ is.sets;
    assocs = length-links model state one ∙ is.assocs;
    entities = entities_after one good;
    links = links_after one good;
  }

-- and so do all
pub states_after : (model : EntityModel) (changes : List Change) (state : State) → IsState model state → All (IsChange model) changes → IsState model (after model state changes)
states_after model [] state is good = is
states_after model (one ∷ changes) state is good = states_after model changes (after_one model state one)
    (one_more_state model state is one (All-head (IsChange model) one changes good)) (All-tail (IsChange model) one changes good)
