-- Each entity that is forced stands in each legal state with the focus.
use Rattle.std.proofs.Common.{◌≡◌, ◌≢◌, ⊎_elim, inl, inr, List, [], map, All, Contains, Bool, true, false, not, Option, Some, if◌then◌else◌, refl, sym, ap, subst, ◌∙◌}
use Rattle.std.proofs.lemmas.List.Elements.{All-contains}
use Rattle.emc_base.proofs.Lists.{all_from_members, at_once}
use Rattle.emc_base.proofs.Members.{contains_head, in_map}
use Rattle.emc_base.proofs.Numbered.{filter_contains}
use Rattle.round_trip.specs.Words.{PropId, SetId, TypeId, Value, Null, Assoc, Constraint, End, Entity, EntityModel, EntitySet, Link, State, At, HasAllowedNulls, HasEntityAt, HasFittingType, HasPrincipal, HavePrincipals, IsA, IsLegal, dependent_end, entities_in, key_of, key_props, links_in, principal_end, props_of, value_beside, value_of, values_of}
use Rattle.edm_types.specs.IsA.{chain, same as itself}
use Rattle.round_trip.specs.soundness.Lookups.{IsNeeded, IsUnderElement}
use Rattle.round_trip.specs.soundness.mappings.Joined.{prop}
use Rattle.round_trip.specs.soundness.models.Constraints.{IsSoundAssoc, IsSoundConstraint}
use Rattle.round_trip.specs.soundness.models.Models.{IsSoundModel}
use Rattle.schema_laws.proofs.sound_demand.Keys.{inherits_keys}
use Rattle.schema_laws.proofs.sound_types.Inherited.{inherits_prop, key_prop}
use Rattle.schema_laws.proofs.state_demand.owners.Owners.{beside_map}
use Rattle.regions.specs.Atoms.{LiesIn}
use Rattle.regions.specs.Basis.{Basis, host_key, partner_end, partner_key}
use Rattle.regions.specs.Patterns.{Valuation, value_under}
use Rattle.condition_logic.specs.declared.atoms.AtomOf.{AtomOf}
use Rattle.schema_laws.specs.state_demand.Selecting.{same_key}
use Rattle.regions.specs.declared.pattern.Focus.{Focus}
use Rattle.regions.specs.declared.pattern.Focus.TheVariants as focus
use Rattle.regions.specs.declared.pattern.Symbol.{Symbol}
use Rattle.regions.specs.declared.pattern.Symbol.TheVariants as symbol
use Rattle.regions.specs.region_laws.Held.{LinkedEntity, StandingLink}
use Rattle.regions.specs.region_laws.pattern.Allowed.{end_at}
use Rattle.regions.proofs.region_laws.listing.Listed.{set_is}
use Rattle.population.proofs.plain.Placed.{place_of}
use Rattle.population.proofs.principals.PrincipalKeys.{same_length, sound_constraint}
use Rattle.population.proofs.pruning.KeptLegal.{has_no_constraint}
use Rattle.forced_entities.specs.Forced.{IsAskedFrom, IsBegun, IsForced, IsKnown, IsLinkEnd, IsPartner, LeadsTo, begins, forced_at, leads, own_member, part_beside, part_in, principal_of}
use Rattle.forced_entities.specs.Held.{HasNoNull, HoldsForced, values_at, values_at_link}
use Rattle.forced_entities.specs.declared.member.Forced.{Forced}
use Rattle.forced_entities.proofs.Beside.{beside, part_among, part_map}

-- the set of the dependent end of a constraint
pub arrow_set : (basis : Basis) → IsSoundModel basis.schema.model → (assoc : Assoc) (constraint : Constraint) → Contains basis.schema.model.assocs assoc → assoc.constraint ≡ Some constraint
    → IsUnderElement basis.schema.model (dependent_end assoc constraint).set (dependent_end assoc constraint).ty
arrow_set basis sound assoc constraint is_assoc constrained = by constraint.dependent_first
  where
    ends : IsSoundAssoc basis.schema.model assoc
    ends = All-contains (IsSoundAssoc basis.schema.model) basis.schema.model.assocs assoc sound.assocs is_assoc

    by : (first : Bool) → IsUnderElement basis.schema.model (if first then assoc.first else assoc.second).set (if first then assoc.first else assoc.second).ty
    by true = ends.first.under
    by false = ends.second.under

module _ (basis : Basis) (sound : IsSoundModel basis.schema.model) (state : State) (legal : IsLegal basis.schema.model state) (values : Valuation) where
  abbrev model : EntityModel
  model = basis.schema.model

  -- what a key tells of a property of it is told of the property
  told_part : (u : _) (t : _) (part : PropId → Option Symbol) (p : PropId) (one : Symbol) → part_in basis (forced_at basis u t part) p ≡ Some one
      → Contains (key_props model t) p × (part p ≡ Some one)
  told_part u t part p one is =
      let among = part_among (key_props model t) (map part (key_props model t)) p one is in
      (among, sym (part_map part (key_props model t) p among) ∙ is)

  -- what stands in a set fits it
  fits : (u : SetId) (set : EntitySet) → At model.sets u.index set → (entity : Entity) → Contains (entities_in state u) entity → HasFittingType model set entity
  fits u set here entity stands = All-contains (HasFittingType model set) (entities_in state u) entity (legal.sets u set here).types stands

  -- a value that may not be null isn't
  needed_value : (u : SetId) (set : EntitySet) → At model.sets u.index set → (entity : Entity) → Contains (entities_in state u) entity → (p : PropId) → Contains (props_of model entity.ty) p
      → IsNeeded model p → value_of model entity p ≢ Null
  needed_value u set here entity stands p among needed is =
      let allowed : HasAllowedNulls model entity = All-contains (HasAllowedNulls model) (entities_in state u) entity (legal.sets u set here).nulls stands in
      let yes = allowed p needed.0 (record { among = among; is_declared = needed.1 }) is in
      absurd (let no : false ≡ true = sym needed.2 ∙ yes in cc)

  -- a part of the key of an entity whose key is given
  key_value : (t : TypeId) (entity : Entity) → IsA model entity.ty t → (key : List Value) → key_of model entity ≡ key → (p : PropId) → Contains (key_props model t) p
      → value_of model entity p ≡ value_beside p (key_props model t) key
  key_value t entity under key is p among =
      sym (beside_map (value_of model entity) (key_props model t) p among)
      ∙ ap (λ (props : List PropId). value_beside p (key_props model t) (map (value_of model entity) props)) (sym ((inherits_keys model sound).same entity.ty t under))
      ∙ ap (value_beside p (key_props model t)) is

  module _ (assoc : Assoc) (constraint : Constraint) (is_assoc : Contains model.assocs assoc) (constrained : assoc.constraint ≡ Some constraint) where
    abbrev dependent : End
    dependent = dependent_end assoc constraint

    abbrev principal : End
    principal = principal_end assoc constraint

    is_sound : IsSoundConstraint model assoc constraint
    is_sound = sound_constraint model sound assoc constraint is_assoc constrained

    -- the principal of an entity of which something is told stands, and the same is told of it
    principal_stands : (entity : Entity) → Contains (entities_in state dependent.set) entity → IsA model entity.ty dependent.ty
        → All (λ value. value ≢ Null) (values_of model entity constraint.dependent) → (told : PropId → Option Symbol)
        → ((d : PropId) (one : Symbol) → Contains constraint.dependent d → told d ≡ Some one → value_of model entity d ≡ value_under values one)
        → HoldsForced basis state values (principal_of basis assoc constraint told)
    principal_stands entity stands covers there told tells =
        let at = place_of model.assocs assoc is_assoc in
        let have : HavePrincipals model state assoc constraint = legal.principals (record { index = at.0 }) assoc constraint at.1 constrained in
        let P : Entity → Type 0 = λ one. IsA model one.ty dependent.ty → All (λ (value : Value). value ≢ Null) (values_of model one constraint.dependent)
        → HasPrincipal model state assoc constraint (values_of model one constraint.dependent) in
        let some = All-contains P (entities_in state dependent.set) entity have stands covers there in
        let x : Entity = some.1 in
        let x_stands : Contains (entities_in state principal.set) x = (some.0, some.2, some.3) in
        let element = is_sound.lists.element in
        record {
          entity = x;
          stands = x_stands;
          typed = subst (IsA model x.ty) element.2 (fits principal.set element.0 element.1 x x_stands).under;
          parts = λ p one is.
              (let heard = told_part principal.set principal.ty (λ q. part_beside q constraint.principal (map told constraint.dependent)) p one is in
              let among : Contains constraint.principal p = All-contains (Contains constraint.principal) (key_props model principal.ty) p is_sound.lists.principal.all heard.0 in
              let by = beside constraint.principal constraint.dependent (sym (same_length model assoc constraint is_sound)) p among in
              sym (beside_map (value_of model x) constraint.principal p among) ∙ ap (value_beside p constraint.principal) some.4
              ∙ by.value (value_of model entity) ∙ tells by.other one by.among (sym (by.part told) ∙ heard.1));
        }

    -- no dependent value is null, where each is known not to be
    none_null : (entity : Entity) → ((d : PropId) → Contains constraint.dependent d → value_of model entity d ≢ Null) → All (λ value. value ≢ Null) (values_of model entity constraint.dependent)
    none_null entity each = all_from_members (λ value. value ≢ Null) (values_of model entity constraint.dependent) (λ value has.
        (let by = in_map (value_of model entity) constraint.dependent value has in
        subst (λ (one : Value). one ≢ Null) by.2 (each by.0 by.1)))

    -- the set of the dependent end
    dependent_set : IsUnderElement model dependent.set dependent.ty
    dependent_set = arrow_set basis sound assoc constraint is_assoc constrained

    -- a dependent property of an entity that may not be null isn't
    dependent_value : (entity : Entity) → Contains (entities_in state dependent.set) entity → IsA model entity.ty dependent.ty → (d : PropId) → Contains constraint.dependent d → IsNeeded model d
        → value_of model entity d ≢ Null
    dependent_value entity stands covers d among needed =
        let declared : Contains (props_of model dependent.ty) d = All-contains (Contains (props_of model dependent.ty)) constraint.dependent d is_sound.lists.dependent among in
        needed_value dependent.set dependent_set.0 dependent_set.1 entity stands d (inherits_prop model sound d entity.ty dependent.ty covers declared) needed

  -- what an entity that stands leads to stands
  pub leads_on : (from to : Forced) → LeadsTo basis from to → HoldsForced basis state values from → HoldsForced basis state values to
  leads_on from to asked holds =
      let assoc = asked.assoc in
      let constraint = asked.by.constraint in
      let entity = holds.entity in
      let stands : Contains (entities_in state (dependent_end assoc constraint).set) entity = subst (λ (u : SetId). Contains (entities_in state u) entity) (sym asked.by.at_end) holds.stands in
      let covers : IsA model entity.ty (dependent_end assoc constraint).ty = chain entity.ty from.ty (dependent_end assoc constraint).ty holds.typed asked.by.covers in
      let there = none_null assoc constraint asked.is_assoc asked.by.constrained entity (λ d among.
      dependent_value assoc constraint asked.is_assoc asked.by.constrained entity stands covers d among (All-contains (IsNeeded model) constraint.dependent d asked.by.asks.1 among)) in
      subst (HoldsForced basis state values) (sym asked.by.is)
      (principal_stands assoc constraint asked.is_assoc asked.by.constrained entity stands covers there (part_in basis from) (λ d one among is. holds.parts d one is))

  -- the entity at an end of a link stands, and its key is the link's
  end_stands : (u : SetId) (t : TypeId) (end : End) (key : List Value) → end.set ≡ u → end.ty ≡ t → HasEntityAt model state end key → (part : PropId → Symbol)
      → ((p : PropId) → Contains (key_props model t) p → value_under values (part p) ≡ value_beside p (key_props model t) key)
      → HoldsForced basis state values (forced_at basis u t (λ p. Some (part p)))
  end_stands u t end key at_set of_type some part tells =
      let entity : Entity = some.1 in
      let under : IsA model entity.ty t = subst (IsA model entity.ty) of_type some.4.0 in
      record {
        entity = entity;
        stands = subst (λ (s : SetId). Contains (entities_in state s) entity) at_set (some.0, some.2, some.3);
        typed = under;
        parts = λ p one is.
            (let heard = told_part u t (λ q. Some (part q)) p one is in
            let same : part p ≡ one = some_same (part p) one heard.1 in
            key_value t entity under key some.4.1 p heard.0 ∙ sym (tells p heard.0) ∙ ap (value_under values) same);
      }
    where
      some_same : (x y : Symbol) → Some x ≡ Some y → x ≡ y
      some_same x y same = cc

  -- where what the focus forces by itself stands, all stands
  pub all_stand : (of : Focus) (not_null : List PropId) → ((to : Forced) → IsBegun basis of not_null to → HoldsForced basis state values to) → (one : Forced) → IsForced basis of not_null one
      → HoldsForced basis state values one
  all_stand of not_null begun one (begins _ is) = begun one is
  all_stand of not_null begun one (leads from _ forced led) = leads_on from one led (all_stand of not_null begun from forced)

-- what the region of an entity forces stands
module _ (basis : Basis) (sound : IsSoundModel basis.schema.model) (at : LinkedEntity basis) (not_null : List PropId) (none : HasNoNull basis not_null at.entity) where
  abbrev of_model : EntityModel
  of_model = basis.schema.model

  at_region_set : at.region.set ≡ at.s
  at_region_set = set_is basis at.s at.region at.held.listed

  region_stands : Contains (entities_in at.state at.region.set) at.entity
  region_stands = subst (λ (s : SetId). Contains (entities_in at.state s) at.entity) (sym at_region_set) at.held.stands

  -- a property that is known not to be null isn't
  known_value : (u : SetId) (set : EntitySet) → At of_model.sets u.index set → Contains (entities_in at.state u) at.entity → (p : PropId) → Contains (props_of of_model at.entity.ty) p
      → IsKnown basis at.region not_null p → value_of of_model at.entity p ≢ Null
  known_value u set here stands p among (inl key) =
      let is = key_prop of_model sound p at.region.ty key in
      needed_value basis sound at.state at.legal (values_at basis at) u set here at.entity stands p among (is.declared, is.is_declared, is.needed)
  known_value u set here stands p among (inr (inl needed)) = needed_value basis sound at.state at.legal (values_at basis at) u set here at.entity stands p among needed
  known_value u set here stands p among (inr (inr (inl has))) = λ is_null.
      (let Lies : AtomOf → Type 0 = λ told. LiesIn (basis.constants (prop told.prop)) told.atom (value_of of_model at.entity told.prop) in
      let P : PropId → Type 0 = λ q. LiesIn (basis.constants (prop q)) has.told.atom (value_of of_model at.entity q) in
      let Q : Value → Type 0 = λ value. LiesIn (basis.constants (prop p)) has.told.atom value in
      has.some (subst Q is_null (subst P has.of (All-contains Lies at.region.atoms has.told at.held.holds.atoms has.is_told))))
  known_value u set here stands p among (inr (inr (inr listed))) = none p listed

  begun_asked : (to : Forced) → IsAskedFrom basis (λ _ constraint. All (IsKnown basis at.region not_null) constraint.dependent) at.region.set at.region.ty (λ p. Some (symbol.Prop p)) to
      → HoldsForced basis at.state (values_at basis at) to
  begun_asked to asked =
      let assoc = asked.assoc in
      let constraint = asked.by.constraint in
      let values = values_at basis at in
      let end = dependent_end assoc constraint in
      let stands : Contains (entities_in at.state end.set) at.entity = subst (λ (u : SetId). Contains (entities_in at.state u) at.entity) (sym asked.by.at_end) region_stands in
      let covers : IsA of_model at.entity.ty end.ty = subst (λ (t : TypeId). IsA of_model t end.ty) (sym at.held.holds.typed) asked.by.covers in
      let lists = (is_sound basis sound at.state at.legal values assoc constraint asked.is_assoc asked.by.constrained).lists in
      let set = dependent_set basis sound at.state at.legal values assoc constraint asked.is_assoc asked.by.constrained in
      let there = none_null basis sound at.state at.legal values assoc constraint asked.is_assoc asked.by.constrained at.entity (λ d among.
      known_value end.set set.0 set.1 stands d
      (inherits_prop of_model sound d at.entity.ty end.ty covers (All-contains (Contains (props_of of_model end.ty)) constraint.dependent d lists.dependent among))
      (All-contains (IsKnown basis at.region not_null) constraint.dependent d asked.by.asks among)) in
      subst (HoldsForced basis at.state values) (sym asked.by.is)
      (principal_stands basis sound at.state at.legal values assoc constraint asked.is_assoc asked.by.constrained at.entity stands covers there (λ p. Some (symbol.Prop p))
      (λ d one among is. ap (value_under values) (let same : symbol.Prop d ≡ one = cc in same)))

  begun_partner : (to : Forced) → IsPartner basis at.region to → HoldsForced basis at.state (values_at basis at) to
  begun_partner to partner =
      let hosts : Contains (basis.hosts at.s) partner.host = subst (λ (s : SetId). Contains (basis.hosts s) partner.host) at_region_set partner.hosts in
      let one = at.held.partners.one partner.host hosts partner.linked in
      let test : Link → Bool = λ link. same_key (host_key partner.host.first_hosts link) (key_of of_model at.entity) in
      let linked : Contains (links_in at.state partner.host.assoc) one.0 =
      (filter_contains test (links_in at.state partner.host.assoc) one.0 (subst (λ (list : List Link). Contains list one.0) (sym one.1) (contains_head one.0 []))).0 in
      let independent = has_no_constraint of_model at.state at.legal partner.host.assoc partner.assoc partner.is_assoc one.0 linked in
      let ends = (at.legal.links partner.host.assoc partner.assoc partner.is_assoc independent).ends in
      let Both : Link → Type 0 = λ link. HasEntityAt of_model at.state partner.assoc.first link.first × HasEntityAt of_model at.state partner.assoc.second link.second in
      let both = All-contains Both (links_in at.state partner.host.assoc) one.0 ends linked in
      subst (HoldsForced basis at.state (values_at basis at)) (sym partner.is) (by one.0 partner.host.first_hosts both.0 both.1 (one.2 partner.assoc partner.is_assoc))
    where
      by : (link : Link) (hosts : Bool) → HasEntityAt of_model at.state partner.assoc.first link.first → HasEntityAt of_model at.state partner.assoc.second link.second
          → ((p : PropId) → Contains (key_props of_model (partner_end hosts partner.assoc).ty) p
          → at.part partner.host.assoc (if hosts then false else true) p ≡ value_beside p (key_props of_model (partner_end hosts partner.assoc).ty) (partner_key hosts link))
          → HoldsForced basis at.state (values_at basis at)
          (forced_at basis (partner_end hosts partner.assoc).set (partner_end hosts partner.assoc).ty (λ p. Some (symbol.End partner.host.assoc (not hosts) p)))
      by link true first second tells = end_stands basis sound at.state at.legal (values_at basis at) partner.assoc.second.set partner.assoc.second.ty partner.assoc.second link.second refl refl second
          (λ p. symbol.End partner.host.assoc false p) tells
      by link false first second tells = end_stands basis sound at.state at.legal (values_at basis at) partner.assoc.first.set partner.assoc.first.ty partner.assoc.first link.first refl refl first
          (λ p. symbol.End partner.host.assoc true p) tells

  pub entity_forces : (one : Forced) → IsForced basis (focus.Entity at.region) not_null one → HoldsForced basis at.state (values_at basis at) one
  entity_forces one forced = all_stand basis sound at.state at.legal (values_at basis at) (focus.Entity at.region) not_null (λ to begun. ⊎_elim (begun_partner to) (begun_asked to) begun) one forced

-- the entity itself stands, told by its own properties
pub own_stands : (basis : Basis) → IsSoundModel basis.schema.model → (at : LinkedEntity basis) → HoldsForced basis at.state (values_at basis at) (own_member basis at.region)
own_stands basis sound at = record {
  entity = at.entity;
  stands = subst (λ (s : SetId). Contains (entities_in at.state s) at.entity) (sym (set_is basis at.s at.region at.held.listed)) at.held.stands;
  typed = subst (λ (t : TypeId). IsA basis.schema.model at.entity.ty t) at.held.holds.typed (itself at.entity.ty);
  parts = λ p one is.
      (let heard = told_part basis sound at.state at.legal (values_at basis at) at.region.set at.region.ty (λ q. Some (symbol.Prop q)) p one is in
      ap (value_under (values_at basis at)) (let same : symbol.Prop p ≡ one = (let told = heard.1 in cc) in same));
}

-- and so does what a link forces
module _ (basis : Basis) (sound : IsSoundModel basis.schema.model) (at : StandingLink basis) where
  begun_end : (to : Forced) → IsLinkEnd basis at.a to → HoldsForced basis at.state (values_at_link basis at) to
  begun_end to end =
      let same : end.assoc ≡ at.assoc = at_once basis.schema.model.assocs at.a.index end.assoc at.assoc end.is_assoc at.is_assoc in
      let independent = has_no_constraint basis.schema.model at.state at.legal at.a at.assoc at.is_assoc at.link at.stands in
      let ends = (at.legal.links at.a at.assoc at.is_assoc independent).ends in
      let Both : Link → Type 0 = λ link. HasEntityAt basis.schema.model at.state at.assoc.first link.first × HasEntityAt basis.schema.model at.state at.assoc.second link.second in
      let both = All-contains Both (links_in at.state at.a) at.link ends at.stands in
      let P : Assoc → Type 0 = λ assoc. HoldsForced basis at.state (values_at_link basis at) (forced_at basis (end_at end.first assoc).set (end_at end.first assoc).ty (λ p. Some (symbol.End at.a end.first p))) in
      subst (HoldsForced basis at.state (values_at_link basis at)) (sym end.is) (subst P (sym same) (by end.first both.0 both.1))
    where
      by : (first : Bool) → HasEntityAt basis.schema.model at.state at.assoc.first at.link.first → HasEntityAt basis.schema.model at.state at.assoc.second at.link.second
          → HoldsForced basis at.state (values_at_link basis at) (forced_at basis (end_at first at.assoc).set (end_at first at.assoc).ty (λ p. Some (symbol.End at.a first p)))
      by true first second = end_stands basis sound at.state at.legal (values_at_link basis at) at.assoc.first.set at.assoc.first.ty at.assoc.first at.link.first refl refl first
          (λ p. symbol.End at.a true p) (λ p among. refl)
      by false first second = end_stands basis sound at.state at.legal (values_at_link basis at) at.assoc.second.set at.assoc.second.ty at.assoc.second at.link.second refl refl second
          (λ p. symbol.End at.a false p) (λ p among. refl)

  pub link_forces : (not_null : List PropId) (one : Forced) → IsForced basis (focus.Link at.a) not_null one → HoldsForced basis at.state (values_at_link basis at) one
  link_forces not_null one forced = all_stand basis sound at.state at.legal (values_at_link basis at) (focus.Link at.a) not_null begun_end one forced
