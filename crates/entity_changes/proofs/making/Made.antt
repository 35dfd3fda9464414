-- The state that what is told makes.
use Rattle.std.proofs.Common.{◌≡◌, ◌<◌, ℕ, List, [], map, length, sym, ap, subst, ◌∙◌}
use Rattle.std.specs.List.{enumerate_from}
use Rattle.std.proofs.lemmas.List.{length-map}
use Rattle.std.proofs.lemmas.List.FromFn.{length-enumerate_from}
use Rattle.round_trip.specs.Words.{EntityModel, Entity, Link, State, entities_in, links_in, key_of}
use Rattle.entity_changes.specs.declared.change.Change.{Change}
use Rattle.entity_changes.specs.declared.making.foretold.Foretold.{Foretold}
use Rattle.entity_changes.specs.Changes.{after}
use Rattle.entity_changes.specs.Spots.{key_spot, link_spot}
use Rattle.entity_changes.specs.making.Fates.{entities_at, links_at, Foretells, HasSize, IsFresh}
use Rattle.entity_changes.proofs.Afterwards.{lengths_entities, lengths_links}
use Rattle.entity_changes.proofs.Fresh.{stays}
use Rattle.entity_changes.proofs.Kept.{numbered_at, same_lists}

module _ (model : EntityModel) (told : Foretold) where
  pub foretells_none : (sets assocs : ℕ) → IsFresh sets told.entities → IsFresh assocs told.links → Foretells model [] told
  foretells_none sets assocs entities links = record {
    entities = λ state size s. sym (stays told.entities sets entities (λ entity. key_spot s (key_of model entity)) s.index (entities_in state s));
    links = λ state size a. sym (stays told.links assocs links (link_spot a) a.index (links_in state a));
  }

  module _ (state : State) (changes : List Change) (foretells : Foretells model changes told) (size : HasSize (length state.entities) (length state.links) told) where
    -- what becomes of each list is what stands there afterwards
    pub entities_made : map (entities_at model told.entities) (enumerate_from 0 state.entities) ≡ (after model state changes).entities
    entities_made = same_lists (map (entities_at model told.entities) (enumerate_from 0 state.entities)) (after model state changes).entities
        (length-map (enumerate_from 0 state.entities) (entities_at model told.entities) ∙ length-enumerate_from 0 state.entities ∙ sym (lengths_entities model changes state))
        (λ i within. numbered_at (entities_at model told.entities) state.entities i [] []
        (subst (λ n. i < n) (length-map (enumerate_from 0 state.entities) (entities_at model told.entities) ∙ length-enumerate_from 0 state.entities) within)
        ∙ sym (foretells.entities state (sym size.entities) (record { index = i })))

    pub links_made : map (links_at told.links) (enumerate_from 0 state.links) ≡ (after model state changes).links
    links_made = same_lists (map (links_at told.links) (enumerate_from 0 state.links)) (after model state changes).links
        (length-map (enumerate_from 0 state.links) (links_at told.links) ∙ length-enumerate_from 0 state.links ∙ sym (lengths_links model changes state))
        (λ i within. numbered_at (links_at told.links) state.links i [] []
        (subst (λ n. i < n) (length-map (enumerate_from 0 state.links) (links_at told.links) ∙ length-enumerate_from 0 state.links) within)
        ∙ sym (foretells.links state (sym size.links) (record { index = i })))

    -- so the lists that are made are the state's afterwards
    pub made_state : (entities : List (List Entity)) (links : List (List Link)) (new_entities : List (List Entity)) (new_links : List (List Link))
        → entities ≡ state.entities → links ≡ state.links → new_entities ≡ map (entities_at model told.entities) (enumerate_from 0 entities)
        → new_links ≡ map (links_at told.links) (enumerate_from 0 links)
        → record { entities = new_entities; links = new_links } ≡ after model state changes
    made_state entities links new_entities new_links same same_links is links_is = λ i. record {
      entities = (is ∙ ap (λ lists. map (entities_at model told.entities) (enumerate_from 0 lists)) same ∙ entities_made) i;
      links = (links_is ∙ ap (λ lists. map (links_at told.links) (enumerate_from 0 lists)) same_links ∙ links_made) i;
    }
