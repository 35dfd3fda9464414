-- States after changes: what stands in each list.
use Rattle.std.proofs.Common.{◌≡◌, ◌≢◌, ◌<◌, ◌≤◌, ◌⊎◌, ⊎_elim, inl, inr, List, [], ◌∷◌, ◌++◌, length, refl, sym, subst, ◌∙◌}
use Rattle.std.proofs.Math.ListN.{set}
use Rattle.std.proofs.lemmas.Bool.{cases_eq, cases_lt}
use Rattle.std.proofs.lemmas.List.{length-set}
use Rattle.round_trip.specs.Words.{SetId, AssocId, EntityModel, Entity, Link, State, entities_in, links_in}
use Rattle.entity_changes.specs.declared.change.Change.{Change}
use Rattle.entity_changes.specs.declared.change.Change.TheVariants as change
use Rattle.entity_changes.specs.Changes.{after, after_one, with_entities, with_links}
use Rattle.entity_changes.proofs.Kept.{nothing_past, put_elsewhere, put_here}

-- sets of one number are one, and so are association sets
pub same_set : (s t : SetId) → s.index ≡ t.index → s ≡ t
same_set s t same = λ i. record { index = same i }

pub same_assoc : (a b : AssocId) → a.index ≡ b.index → a ≡ b
same_assoc a b same = λ i. record { index = same i }

module _ (state : State) (s : SetId) (entities : List Entity) where
  pub entities_here : s.index < length state.entities → entities_in (with_entities state s entities) s ≡ entities
  entities_here within = put_here state.entities s.index entities within

  pub entities_elsewhere : (other : SetId) → other.index ≢ s.index → entities_in (with_entities state s entities) other ≡ entities_in state other
  entities_elsewhere other apart = put_elsewhere state.entities s.index entities other.index apart

  -- either way, they are the old ones or the new
  pub entities_cases : (t : SetId) → (entities_in (with_entities state s entities) t ≡ entities_in state t) ⊎
      ((s ≡ t) × (entities_in (with_entities state s entities) t ≡ entities))
  entities_cases t = ⊎_elim
      (λ (same : s.index ≡ t.index). ⊎_elim
      (λ (within : s.index < length state.entities).
      inr (same_set s t same, subst (λ (u : SetId). entities_in (with_entities state s entities) u ≡ entities) (same_set s t same) (entities_here within)))
      (λ (past : length state.entities ≤ s.index). inl (subst (λ (u : SetId). entities_in (with_entities state s entities) u ≡ entities_in state u) (same_set s t same)
      (nothing_past (set state.entities s.index entities) s.index (subst (λ n. n ≤ s.index) (sym (length-set state.entities s.index entities)) past)
      ∙ sym (nothing_past state.entities s.index past))))
      (cases_lt s.index (length state.entities)))
      (λ (apart : s.index ≢ t.index). inl (entities_elsewhere t (λ same. apart (sym same))))
      (cases_eq s.index t.index)

module _ (state : State) (a : AssocId) (links : List Link) where
  pub links_here : a.index < length state.links → links_in (with_links state a links) a ≡ links
  links_here within = put_here state.links a.index links within

  pub links_elsewhere : (other : AssocId) → other.index ≢ a.index → links_in (with_links state a links) other ≡ links_in state other
  links_elsewhere other apart = put_elsewhere state.links a.index links other.index apart

  pub links_cases : (b : AssocId) → (links_in (with_links state a links) b ≡ links_in state b) ⊎ ((a ≡ b) × (links_in (with_links state a links) b ≡ links))
  links_cases b = ⊎_elim
      (λ (same : a.index ≡ b.index). ⊎_elim
      (λ (within : a.index < length state.links).
      inr (same_assoc a b same, subst (λ (d : AssocId). links_in (with_links state a links) d ≡ links) (same_assoc a b same) (links_here within)))
      (λ (past : length state.links ≤ a.index). inl (subst (λ (d : AssocId). links_in (with_links state a links) d ≡ links_in state d) (same_assoc a b same)
      (nothing_past (set state.links a.index links) a.index (subst (λ n. n ≤ a.index) (sym (length-set state.links a.index links)) past)
      ∙ sym (nothing_past state.links a.index past))))
      (cases_lt a.index (length state.links)))
      (λ (apart : a.index ≢ b.index). inl (links_elsewhere b (λ same. apart (sym same))))
      (cases_eq a.index b.index)

module _ (model : EntityModel) where
  -- a change leaves as many lists
  pub length-entities : (state : State) (one : Change) → length (after_one model state one).entities ≡ length state.entities
  length-entities state (change.Insert s entity) = length-set state.entities s.index _
  length-entities state (change.Update s entity) = length-set state.entities s.index _
  length-entities state (change.Delete s key) = length-set state.entities s.index _
  length-entities state (change.Link a link) = refl
  length-entities state (change.Unlink a link) = refl

  pub length-links : (state : State) (one : Change) → length (after_one model state one).links ≡ length state.links
  length-links state (change.Insert s entity) = refl
  length-links state (change.Update s entity) = refl
  length-links state (change.Delete s key) = refl
  length-links state (change.Link a link) = length-set state.links a.index _
  length-links state (change.Unlink a link) = length-set state.links a.index _

  pub lengths_entities : (changes : List Change) (state : State) → length (after model state changes).entities ≡ length state.entities
  lengths_entities [] state = refl
  lengths_entities (one ∷ changes) state = lengths_entities changes (after_one model state one) ∙ length-entities state one

  pub lengths_links : (changes : List Change) (state : State) → length (after model state changes).links ≡ length state.links
  lengths_links [] state = refl
  lengths_links (one ∷ changes) state = lengths_links changes (after_one model state one) ∙ length-links state one

  -- one more change at the end
  pub after_more : (changes : List Change) (state : State) (one : Change) → after model state (changes ++ one ∷ []) ≡ after_one model (after model state changes) one
  after_more [] state one = refl
  after_more (first ∷ changes) state one = after_more changes (after_one model state first) one
