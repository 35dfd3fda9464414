-- A supported state is legal.
use Rattle.std.proofs.Common.{◌≡◌, ◌≢◌, ℕ, List, [], ◌++◌, length, All, Any, Contains, Option, Some, None, true, false, if◌then◌else◌, refl, sym, ap, subst, ◌∙◌}
use Rattle.std.specs.Option.{option_map_or}
use Rattle.std.proofs.lemmas.List.{length-map}
use Rattle.std.proofs.lemmas.List.Elements.{All-contains}
use Rattle.emc_base.proofs.FoundItems.{member_of}
use Rattle.emc_base.proofs.Lists.{all_from_members}
use Rattle.emc_base.proofs.Mapped.{contains_at}
use Rattle.emc_base.proofs.Members.{contains_nil}
use Rattle.round_trip.specs.Words.{SetId, AssocId, Value, EntityModel, Assoc, Constraint, End, Entity, Link, Null, State, At, AreLegalLinks, HasCount, HasEntityAt, HavePrincipals, IsA, IsEntity, IsIndependent, IsLegal, IsLegalSet, IsLink, dependent_end, principal_end, entities_in, key_of, key_props, links_in, value_of, values_of}
use Rattle.schema_laws.proofs.sound_demand.Keys.{inherits_keys}
use Rattle.schema_laws.specs.short_values.Numbers.{numbers_from}
use Rattle.population.specs.Given.{AreGiven, AreKeys, AreLinked, HasNumbers, StandsAtEnd}
use Rattle.population.specs.Principals.{PlacedKey}
use Rattle.population.specs.Supported.{Placed, PlacedLink, added_at, all_links, is_none, linked_in, links_of, stands_in, supported}
use Rattle.population.proofs.supporting.Entities.{entities_are, is_entity, legal_set, links_are}
use Rattle.population.proofs.supporting.Links.{count, ends_stand, links_once}
use Rattle.population.proofs.plain.Lists.{length-numbers}
use Rattle.population.proofs.principals.Principals.{have_principals}

module _ (model : EntityModel) (outer : ℕ) (has : HasNumbers model outer) (given : List Placed) (keys : List PlacedKey) (links : List PlacedLink)
    (are_given : AreGiven model outer given) (are_keys : AreKeys model outer given keys) (are_linked : AreLinked model outer given keys links) where
  abbrev state : State
  state = supported model outer given keys links

  abbrev stands : SetId → List Entity
  stands u = stands_in model outer given keys u

  abbrev linked : AssocId → List Link
  linked a = linked_in model outer given keys links a

  entities_of : (u : SetId) → entities_in state u ≡ stands u
  entities_of u = entities_are model outer given keys links u

  links_at : (a : AssocId) → links_in state a ≡ linked a
  links_at a = links_are model outer given keys links a

  -- a key that stands at an end has as many parts as the end's key
  long : (end : End) (key : List Value) → StandsAtEnd model outer given keys end key → length key ≡ length (key_props model end.ty)
  long end key any =
      let found = member_of (λ (entity : Entity). IsA model entity.ty end.ty × (key_of model entity ≡ key)) (stands end.set) any in
      sym (ap length found.2.1) ∙ length-map (key_props model found.0.ty) (value_of model found.0)
      ∙ ap length ((inherits_keys model has.sound).same found.0.ty end.ty found.2.0)

  module _ (a : AssocId) (assoc : Assoc) (here : At model.assocs a.index assoc) where
    -- an association with a constraint has no links
    none_linked : (constraint : Constraint) → assoc.constraint ≡ Some constraint → linked a ≡ []
    none_linked constraint constrained =
        ap (λ found. option_map_or (all_links model outer given keys a (links_of links a)) found []) here
        ∙ ap (λ found. if is_none found then links_of links a ++ (added_at model outer given keys true a assoc (links_of links a) ++ added_at model outer given keys false a assoc (links_of links a)) else [])
        constrained

    are_links : All (IsLink model assoc) (linked a)
    are_links = by assoc.constraint refl
      where
        by : (found : Option Constraint) → assoc.constraint ≡ found → All (IsLink model assoc) (linked a)
        by None independent =
            let Both : Link → Type 0 = λ link. StandsAtEnd model outer given keys assoc.first link.first × StandsAtEnd model outer given keys assoc.second link.second in
            all_from_members (IsLink model assoc) (linked a) (λ link one.
            let both : Both link = All-contains Both (linked a) link (ends_stand model outer has given keys are_given are_keys links are_linked a assoc here independent) one in
            record { independent = independent; first = long assoc.first link.first both.0; second = long assoc.second link.second both.1 })
        by (Some constraint) constrained = all_from_members (IsLink model assoc) (linked a) (λ link one.
            absurd (contains_nil link (subst (λ list. Contains list link) (none_linked constraint constrained) one)))

    -- S5 to S7
    legal_links : IsIndependent assoc → AreLegalLinks model state assoc (links_in state a)
    legal_links independent =
        let P : List Link → Type 0 = λ list. AreLegalLinks model state assoc list in
        let At_end : End → List Value → List Entity → Type 0 = λ end key list. Any (λ entity. IsA model entity.ty end.ty × (key_of model entity ≡ key)) list in
        let Both : Link → Type 0 = λ link. StandsAtEnd model outer given keys assoc.first link.first × StandsAtEnd model outer given keys assoc.second link.second in
        let First : Entity → Type 0 = λ entity. IsA model entity.ty assoc.first.ty → HasCount assoc.second.mult (λ link. link.first ≡ key_of model entity) (linked a) in
        let Second : Entity → Type 0 = λ entity. IsA model entity.ty assoc.second.ty → HasCount assoc.first.mult (λ link. link.second ≡ key_of model entity) (linked a) in
        subst P (sym (links_at a)) (record {
          ends = all_from_members (λ link. HasEntityAt model state assoc.first link.first × HasEntityAt model state assoc.second link.second) (linked a) (λ link one.
              let both : Both link = All-contains Both (linked a) link (ends_stand model outer has given keys are_given are_keys links are_linked a assoc here independent) one in
              (subst (At_end assoc.first link.first) (sym (entities_of assoc.first.set)) both.0, subst (At_end assoc.second link.second) (sym (entities_of assoc.second.set)) both.1));
          once = links_once model outer has given keys are_given are_keys links are_linked a assoc here independent;
          first_partners = subst (All First) (sym (entities_of assoc.first.set)) (all_from_members First (stands assoc.first.set) (λ entity one covers.
              count model outer has given keys are_given are_keys links are_linked a assoc here independent true entity one covers));
          second_partners = subst (All Second) (sym (entities_of assoc.second.set)) (all_from_members Second (stands assoc.second.set) (λ entity one covers.
              count model outer has given keys are_given are_keys links are_linked a assoc here independent false entity one covers));
        })

    -- S8
    have_all : (constraint : Constraint) → assoc.constraint ≡ Some constraint → HavePrincipals model state assoc constraint
    have_all constraint constrained =
        let u : SetId = (dependent_end assoc constraint).set in
        let t : SetId = (principal_end assoc constraint).set in
        let Asks : List Entity → Entity → Type 0 = λ list entity. IsA model entity.ty (dependent_end assoc constraint).ty
        → All (λ value. value ≢ Null) (values_of model entity constraint.dependent)
        → Any (λ other. values_of model other constraint.principal ≡ values_of model entity constraint.dependent) list in
        subst (λ list. All (Asks (entities_in state t)) list) (sym (entities_of u))
        (subst (λ list. All (Asks list) (stands u)) (sym (entities_of t))
        (have_principals model outer has given keys are_given are_keys assoc constraint (contains_at model.assocs a.index assoc here) constrained))

  pub supported_legal : IsLegal model state
  supported_legal = record {
    shape = record {
      sets = length-map (numbers_from 0 (length model.sets)) _ ∙ length-numbers 0 (length model.sets);
      assocs = length-map (numbers_from 0 (length model.assocs)) _ ∙ length-numbers 0 (length model.assocs);
      entities = λ u. subst (All (IsEntity model)) (sym (entities_of u)) (all_from_members (IsEntity model) (stands u) (λ entity one.
          is_entity model outer has given keys are_given are_keys u entity one));
      links = λ a assoc here. subst (All (IsLink model assoc)) (sym (links_at a)) (are_links a assoc here);
    };
    sets = λ u set here. subst (IsLegalSet model set) (sym (entities_of u)) (legal_set model outer has given keys are_given are_keys u set here);
    links = legal_links;
    principals = λ a assoc constraint here constrained. have_all a assoc here constraint constrained;
  }
