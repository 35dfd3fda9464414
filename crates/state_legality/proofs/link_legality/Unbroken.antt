-- In a sound model, a state in which no breach of links or principals is found keeps their rules.
use Rattle.std.proofs.Common.{◌≡◌, ◌≢◌, ⊎_elim, inl, inr, ℕ, List, [], ◌∷◌, ◌++◌, All, AllPairs, Some, refl, subst}
use Rattle.emc_base.proofs.facts.Tests.{both_decided}
use Rattle.round_trip.specs.Words.{AssocId, EntityModel, Assoc, Constraint, End, Entity, Link, State, Value, Null, At, IsA, IsIndependent, place_at, HasEntityAt, HasCount, HasPrincipal, HavePrincipals, AreLegalLinks, entities_in, links_in, key_of, values_of, dependent_end, principal_end}
use Rattle.entity_state.proofs.breach_order.Apart.{apart_all}
use Rattle.entity_state.specs.declared.breach_order.found.Found.{Found}
use Rattle.round_trip.specs.soundness.models.Models.{IsSoundModel}
use Rattle.schema_laws.proofs.sound_types.Deciding.{derived_or_not}
use Rattle.state_legality.specs.link_legality.Tells.{BreaksLinks, KeepsLinkRules}
use Rattle.state_legality.proofs.link_legality.Decided.{Decided, all_at, any_decided, keys_decided, must_count}
use Rattle.state_legality.proofs.link_legality.Sound.{dependent_set}

module _ (model : EntityModel) (state : State) (sound : IsSoundModel model) (none : (found : Found) → ¬ BreaksLinks model state found) where
  has_or_not : (end : End) (key : List Value) → Decided (HasEntityAt model state end key)
  has_or_not end key = any_decided (λ entity. IsA model entity.ty end.ty × (key_of model entity ≡ key))
      (λ entity. both_decided (derived_or_not model end.ty sound entity.ty) (keys_decided (key_of model entity) key)) (entities_in state end.set)

  module _ (a : AssocId) (assoc : Assoc) (here : At model.assocs a.index assoc) where
    module _ (independent : IsIndependent assoc) where
      abbrev links : List Link
      links = links_in state a

      first_there : (i : ℕ) (link : Link) → At links i link → HasEntityAt model state assoc.first link.first
      first_there i link at = ⊎_elim
          (λ (has : HasEntityAt model state assoc.first link.first). has)
          (λ not. absurd (none (record { rule = 5; spot = a.index ∷ i ∷ 0 ∷ []; place = place_at assoc.set_name (link.first ++ link.second) assoc.first.role }) (inl (
            refl,
            record {
              a = a.index;
              i = i;
              assoc = assoc;
              link = link;
              stands = record { is_assoc = here; independent = independent; is_link = at };
              broken = inl (refl, refl, not);
            },
          ))))
          (has_or_not assoc.first link.first)

      second_there : (i : ℕ) (link : Link) → At links i link → HasEntityAt model state assoc.second link.second
      second_there i link at = ⊎_elim
          (λ (has : HasEntityAt model state assoc.second link.second). has)
          (λ not. absurd (none (record { rule = 5; spot = a.index ∷ i ∷ 1 ∷ []; place = place_at assoc.set_name (link.first ++ link.second) assoc.second.role }) (inl (
            refl,
            record {
              a = a.index;
              i = i;
              assoc = assoc;
              link = link;
              stands = record { is_assoc = here; independent = independent; is_link = at };
              broken = inr (refl, refl, not);
            },
          ))))
          (has_or_not assoc.second link.second)

      links_apart : AllPairs (λ link other. link ≢ other) links
      links_apart = apart_all (λ (link : Link). link) links (λ i repeat.
          none (record { rule = 6; spot = a.index ∷ i ∷ []; place = place_at assoc.set_name (repeat.item.first ++ repeat.item.second) [] }) (inr (inl (
            refl,
            record {
              a = a.index;
              i = i;
              earlier = repeat.earlier;
              assoc = assoc;
              link = repeat.item;
              stands = record { is_assoc = here; independent = independent; is_link = repeat.here };
              other_stands = record { is_assoc = here; independent = independent; is_link = subst (λ (link : Link). At links repeat.earlier link) repeat.like repeat.there };
              before = repeat.before;
              spot_is = refl;
              place_is = refl;
            },
          ))))

      first_counted : (i : ℕ) (entity : Entity) → At (entities_in state assoc.first.set) i entity → IsA model entity.ty assoc.first.ty
          → HasCount assoc.second.mult (λ link. link.first ≡ key_of model entity) links
      first_counted i entity at typed = must_count (λ link. link.first ≡ key_of model entity) (λ link. keys_decided link.first (key_of model entity)) links assoc.second.mult
          (λ not. none (record { rule = 7; spot = a.index ∷ 0 ∷ i ∷ []; place = place_at assoc.set_name (key_of model entity) assoc.first.role }) (inr (inr (inl (
            refl,
            (
              a.index,
              i,
              assoc,
              inl (refl, record { entity = entity; is_assoc = here; independent = independent; stands = at; typed = typed; broken = not; place_is = refl }),
            ),
          )))))

      second_counted : (i : ℕ) (entity : Entity) → At (entities_in state assoc.second.set) i entity → IsA model entity.ty assoc.second.ty
          → HasCount assoc.first.mult (λ link. link.second ≡ key_of model entity) links
      second_counted i entity at typed = must_count (λ link. link.second ≡ key_of model entity) (λ link. keys_decided link.second (key_of model entity)) links assoc.first.mult
          (λ not. none (record { rule = 7; spot = a.index ∷ 1 ∷ i ∷ []; place = place_at assoc.set_name (key_of model entity) assoc.second.role }) (inr (inr (inl (
            refl,
            (
              a.index,
              i,
              assoc,
              inr (refl, record { entity = entity; is_assoc = here; independent = independent; stands = at; typed = typed; broken = not; place_is = refl }),
            ),
          )))))

      legal_links : AreLegalLinks model state assoc links
      legal_links = record {
        ends = all_at (λ link. HasEntityAt model state assoc.first link.first × HasEntityAt model state assoc.second link.second) links
            (λ i link at. (first_there i link at, second_there i link at));
        once = links_apart;
        first_partners = all_at (λ entity. IsA model entity.ty assoc.first.ty → HasCount assoc.second.mult (λ link. link.first ≡ key_of model entity) links)
            (entities_in state assoc.first.set) first_counted;
        second_partners = all_at (λ entity. IsA model entity.ty assoc.second.ty → HasCount assoc.first.mult (λ link. link.second ≡ key_of model entity) links)
            (entities_in state assoc.second.set) second_counted;
      }

    module _ (constraint : Constraint) (constrained : assoc.constraint ≡ Some constraint) where
      has_principal : (i : ℕ) (entity : Entity) → At (entities_in state (dependent_end assoc constraint).set) i entity → IsA model entity.ty (dependent_end assoc constraint).ty
          → All (λ value. value ≢ Null) (values_of model entity constraint.dependent) → HasPrincipal model state assoc constraint (values_of model entity constraint.dependent)
      has_principal i entity at typed told = ⊎_elim
          (λ (has : HasPrincipal model state assoc constraint (values_of model entity constraint.dependent)). has)
          (λ not.
          let set = dependent_set model sound a assoc constraint here in
          absurd (none (record { rule = 8; spot = a.index ∷ i ∷ []; place = place_at set.0.name (key_of model entity) assoc.set_name }) (inr (inr (inr (
            refl,
            record {
              a = a.index;
              i = i;
              assoc = assoc;
              constraint = constraint;
              set = set.0;
              entity = entity;
              is_assoc = here;
              constrained = constrained;
              stands = record { is_set = set.1; is_entity = at };
              typed = typed;
              not_null = told;
              broken = not;
              spot_is = refl;
              place_is = refl;
            },
          ))))))
          (any_decided (λ principal. values_of model principal constraint.principal ≡ values_of model entity constraint.dependent)
          (λ principal. keys_decided (values_of model principal constraint.principal) (values_of model entity constraint.dependent))
          (entities_in state (principal_end assoc constraint).set))

      principals : HavePrincipals model state assoc constraint
      principals = all_at (λ entity. IsA model entity.ty (dependent_end assoc constraint).ty → All (λ value. value ≢ Null) (values_of model entity constraint.dependent)
          → HasPrincipal model state assoc constraint (values_of model entity constraint.dependent)) (entities_in state (dependent_end assoc constraint).set) has_principal

  pub keeps_rules : KeepsLinkRules model state
  keeps_rules = record {
    links = λ a assoc here independent. legal_links a assoc here independent;
    principals = λ a assoc constraint here constrained. principals a assoc here constraint constrained;
  }
