-- Each rule of states tells one place at a spot.
use Rattle.std.proofs.Common.{◌≡◌, inl, inr, ℕ, List, [], ◌∷◌, ◌++◌, refl, false}
use Rattle.std.specs.Prelude.{codes}
use Rattle.round_trip.specs.Types.{Value, Place, place_at, EntityModel, Prop, EntitySet, Assoc, End, Mult, Entity, Link, key_of, State, entities_in, links_in}
use Rattle.round_trip.specs.legality.Legal.{dependent_end}
use Rattle.round_trip.specs.legality.Breaches.{StandsIn, LinksIn, StandsAtProp, HasWrongCount, BreaksType, BreaksNull, BreaksDomain, BreaksKey, BreaksEnd, BreaksOnce, BreaksCount, BreaksPrincipal, BreaksRule}
use Rattle.round_trip.proofs.FirstBreach.{TellsOne, StandsSome, null_told, domain_told, TellsOneFrom, last_rule, before_rules}
use Rattle.round_trip.proofs.AtPlaces.{StandAt, told_once, told_with, told_at}

module _ (model : EntityModel) (state : State) where
  abbrev entities : ℕ → EntitySet → List Entity
  entities s set = entities_in state (record { index = s })

  abbrev links : ℕ → Assoc → List Link
  links a assoc = links_in state (record { index = a })

  module _ {spot rest : List ℕ} where
    entity_at : {s i : ℕ} {set : EntitySet} {entity : Entity} → StandsIn model state s set i entity → spot ≡ s ∷ i ∷ rest
        → StandAt model.sets entities spot set entity
    entity_at {s = s} {i = i} stands begins = record { n = s; i = i; rest = rest; item = stands.is_set; member = stands.is_entity; begins = begins }

    link_at : {a i : ℕ} {assoc : Assoc} {link : Link} → LinksIn model state a assoc i link → spot ≡ a ∷ i ∷ rest
        → StandAt model.assocs links spot assoc link
    link_at {a = a} {i = i} stands begins = record { n = a; i = i; rest = rest; item = stands.is_assoc; member = stands.is_link; begins = begins }

  module _ (spot : List ℕ) where
    type_told : TellsOne (BreaksType model state spot)
    type_told = told_at model.sets entities spot (λ set entity. place_at set.name (key_of model entity) (codes "$type")) (BreaksType model state spot)
        (λ place breaks. (breaks.set, breaks.entity, entity_at breaks.stands breaks.spot_is, breaks.place_is))

    prop_told : TellsOne (StandsSome (StandsAtProp model state spot))
    prop_told x y one two =
        told_with model.sets entities (λ set entity (prop : Prop). place_at set.name (key_of model entity) prop.name) one.1 two.1
        (entity_at one.2.stands one.2.spot_is) (entity_at two.2.stands two.2.spot_is) (λ same_set same_entity. cc) one.2.place_is two.2.place_is

    key_told : TellsOne (BreaksKey model state spot)
    key_told = told_at model.sets entities spot (λ set entity. place_at set.name (key_of model entity) []) (BreaksKey model state spot)
        (λ place breaks. (breaks.set, breaks.entity, entity_at breaks.stands breaks.spot_is, breaks.place_is))

    end_told : TellsOne (BreaksEnd model state spot)
    end_told x y one two = elim one.broken [
      | inl first ↦ elim two.broken [
        | inl other ↦ at_end (λ assoc. assoc.first.role) first.0 other.0 first.1 other.1
        | inr other ↦ absurd (cc (first.0, other.0))
      ]
      | inr second ↦ elim two.broken [
        | inl other ↦ absurd (cc (second.0, other.0))
        | inr other ↦ at_end (λ assoc. assoc.second.role) second.0 other.0 second.1 other.1
      ]
    ]
      where
        at_end : (role : Assoc → List ℕ) {rest : List ℕ} → spot ≡ one.a ∷ one.i ∷ rest → spot ≡ two.a ∷ two.i ∷ rest
            → x ≡ place_at one.assoc.set_name (one.link.first ++ one.link.second) (role one.assoc)
            → y ≡ place_at two.assoc.set_name (two.link.first ++ two.link.second) (role two.assoc) → x ≡ y
        at_end role at_one at_two = told_once model.assocs links (λ assoc link. place_at assoc.set_name (link.first ++ link.second) (role assoc))
            (link_at one.stands at_one) (link_at two.stands at_two)

    partners_told : (end_of : Assoc → End) {x y : Place} {a b i j : ℕ} {assoc other : Assoc} {mult other_mult : Mult} {key_at other_key_at : Link → List Value}
        → HasWrongCount model state a assoc (end_of assoc) mult key_at i x → HasWrongCount model state b other (end_of other) other_mult other_key_at j y
        → a ∷ i ∷ [] ≡ b ∷ j ∷ [] → x ≡ y
    partners_told end_of {a = a} {b = b} {i = i} {j = j} one two here =
        told_once model.assocs (λ n assoc. entities_in state (end_of assoc).set) (λ assoc entity. place_at assoc.set_name (key_of model entity) (end_of assoc).role)
        (record { n = a; i = i; rest = []; item = one.is_assoc; member = one.stands; begins = refl })
        (record { n = b; i = j; rest = []; item = two.is_assoc; member = two.stands; begins = here }) one.place_is two.place_is

    count_told : TellsOne (BreaksCount model state spot)
    count_told x y one two = elim one.3 [
      | inl first ↦ elim two.3 [
        | inl other ↦ partners_told (λ assoc. assoc.first) first.1 other.1 (cc (first.0, other.0))
        | inr other ↦ absurd (cc (first.0, other.0))
      ]
      | inr second ↦ elim two.3 [
        | inl other ↦ absurd (cc (second.0, other.0))
        | inr other ↦ partners_told (λ assoc. assoc.second) second.1 other.1 (cc (second.0, other.0))
      ]
    ]

    once_told : TellsOne (BreaksOnce model state spot)
    once_told = told_at model.assocs links spot (λ assoc link. place_at assoc.set_name (link.first ++ link.second) []) (BreaksOnce model state spot)
        (λ place breaks. (breaks.assoc, breaks.link, link_at breaks.stands breaks.spot_is, breaks.place_is))

    principal_told : TellsOne (BreaksPrincipal model state spot)
    principal_told x y one two =
        let same_assoc : one.assoc ≡ two.assoc = cc in
        let same_constraint : one.constraint ≡ two.constraint = cc in
        let here : set_number two ∷ two.i ∷ [] ≡ set_number one ∷ one.i ∷ [] = cc in
        told_with model.sets entities (λ set entity (assoc : Assoc). place_at set.name (key_of model entity) assoc.set_name) one.assoc two.assoc
        (entity_at one.stands here) (entity_at two.stands refl) (λ same_set same_entity. same_assoc) one.place_is two.place_is
      where
        set_number : {place : Place} → BreaksPrincipal model state spot place → ℕ
        set_number breaks = (dependent_end breaks.assoc breaks.constraint).set.index

    rules : TellsOneFrom 1 (λ rule. BreaksRule model state rule spot)
    rules =
        before_rules 1 (BreaksType model state spot) type_told _
        (before_rules 2 (BreaksNull model state spot) (null_told (StandsAtProp model state spot) prop_told (λ prop. prop.nullable ≡ false)) _
        (before_rules 3 (BreaksDomain model state spot) (domain_told (StandsAtProp model state spot) prop_told (λ prop. prop.kind)) _
        (before_rules 4 (BreaksKey model state spot) key_told _
        (before_rules 5 (BreaksEnd model state spot) end_told _
        (before_rules 6 (BreaksOnce model state spot) once_told _
        (before_rules 7 (BreaksCount model state spot) count_told _
        (last_rule 8 (BreaksPrincipal model state spot) principal_told)))))))

  pub state_rules_tell_one : (rule : ℕ) (spot : List ℕ) → TellsOne (BreaksRule model state rule spot)
  state_rules_tell_one rule spot = (rules spot).one rule
