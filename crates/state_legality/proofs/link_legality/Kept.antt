-- Where the rules of links and principals are kept, there is no breach of them.
use Rattle.std.proofs.Common.{◌≡◌, ◌≢◌, ⊎_elim, inl, inr, ℕ, List, All, refl}
use Rattle.round_trip.specs.Words.{EntityModel, Link, State, Null, IsA, HasEntityAt, HasCount, HasPrincipal, entities_in, links_in, key_of, values_of, dependent_end}
use Rattle.entity_state.proofs.breach_order.Apart.{apart_none}
use Rattle.entity_state.proofs.breach_order.Turns.{all_here}
use Rattle.entity_state.specs.declared.breach_order.found.Found.{Found}
use Rattle.state_legality.specs.link_legality.Tells.{BreaksLinks, KeepsLinkRules}

module _ (model : EntityModel) (state : State) (keeps : KeepsLinkRules model state) where
  abbrev links_at : ℕ → List Link
  links_at a = links_in state (record { index = a })

  pub no_breach : (found : Found) → ¬ BreaksLinks model state found
  no_breach found (inl (is, end)) =
      let legal = keeps.links (record { index = end.a }) end.assoc end.stands.is_assoc end.stands.independent in
      let both = all_here (λ link. HasEntityAt model state end.assoc.first link.first × HasEntityAt model state end.assoc.second link.second)
      (links_at end.a) end.i end.link legal.ends end.stands.is_link in
      ⊎_elim (λ first. first.2 both.0) (λ second. second.2 both.1) end.broken
  no_breach found (inr (inl (is, once))) =
      let legal = keeps.links (record { index = once.a }) once.assoc once.stands.is_assoc once.stands.independent in
      apart_none (λ (link : Link). link) (links_at once.a) legal.once once.i
      (record { earlier = once.earlier; before = once.before; item = once.link; other = once.link; here = once.stands.is_link; there = once.other_stands.is_link; like = refl })
  no_breach found (inr (inr (inl (is, (a, i, assoc, inl (at, wrong)))))) =
      let legal = keeps.links (record { index = a }) assoc wrong.is_assoc wrong.independent in
      wrong.broken (all_here (λ entity. IsA model entity.ty assoc.first.ty → HasCount assoc.second.mult (λ link. link.first ≡ key_of model entity) (links_at a))
      (entities_in state assoc.first.set) i wrong.entity legal.first_partners wrong.stands wrong.typed)
  no_breach found (inr (inr (inl (is, (a, i, assoc, inr (at, wrong)))))) =
      let legal = keeps.links (record { index = a }) assoc wrong.is_assoc wrong.independent in
      wrong.broken (all_here (λ entity. IsA model entity.ty assoc.second.ty → HasCount assoc.first.mult (λ link. link.second ≡ key_of model entity) (links_at a))
      (entities_in state assoc.second.set) i wrong.entity legal.second_partners wrong.stands wrong.typed)
  no_breach found (inr (inr (inr (is, lost)))) =
      let end = dependent_end lost.assoc lost.constraint in
      lost.broken (all_here (λ entity. IsA model entity.ty end.ty → All (λ value. value ≢ Null) (values_of model entity lost.constraint.dependent)
      → HasPrincipal model state lost.assoc lost.constraint (values_of model entity lost.constraint.dependent))
      (entities_in state end.set) lost.i lost.entity (keeps.principals (record { index = lost.a }) lost.assoc lost.constraint lost.is_assoc lost.constrained)
      lost.stands.is_entity lost.typed lost.not_null)
