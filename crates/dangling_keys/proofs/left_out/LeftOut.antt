-- What is read of a state is what is forced: an entity whose key is given in symbols stands exactly where just this key is forced.
use Rattle.std.proofs.Common.{◌≡◌, ◌≢◌, ◌⊎◌, ⊎_elim, inl, inr, ℕ, ◌+◌, ◌*◌, ◌≤◌, List, map, Contains, Option, Some, None, refl, sym, ap, subst, ◌∙◌, arith}
use Rattle.std.proofs.lemmas.List.Elements.{All-contains}
use Rattle.emc_base.specs.declared.value.Kind.TheVariants as kind
use Rattle.round_trip.specs.Words.{SetId, AssocId, PropId, Value, Null, Kind, Assoc, Entity, EntityModel, EntitySet, At, IsIndependent, IsLegal, State, entities_in, key_of, key_props, value_beside, value_of}
use Rattle.round_trip.specs.legality.Legal.{HasFittingType}
use Rattle.round_trip.specs.soundness.Lookups.{set_key}
use Rattle.round_trip.specs.soundness.models.Inheritance.{IsKeyProp}
use Rattle.schema_laws.specs.short_values.Fresh.{added_value, fresh, fresh_at}
use Rattle.schema_laws.specs.short_values.Numbers.{letter, number}
use Rattle.schema_laws.proofs.short_values.Places.{fresh_is}
use Rattle.schema_laws.proofs.short_values.Short.{fresh_apart}
use Rattle.schema_laws.proofs.sound_demand.Keys.{inherits_keys}
use Rattle.schema_laws.proofs.sound_types.Inherited.{declared_above, key_among, key_prop}
use Rattle.schema_laws.proofs.state_demand.owners.Owners.{beside_map}
use Rattle.cells.specs.Limits.{IsWithinLimits}
use Rattle.regions.specs.Basis.{Basis}
use Rattle.regions.specs.Patterns.{Valuation, value_under}
use Rattle.regions.specs.Regions.{regions_of}
use Rattle.regions.specs.declared.pattern.Focus.{Focus}
use Rattle.regions.specs.declared.pattern.Focus.TheVariants as focus
use Rattle.regions.specs.declared.pattern.Symbol.{Symbol}
use Rattle.regions.specs.declared.pattern.Symbol.TheVariants as symbol
use Rattle.regions.specs.declared.region.Region.{Region}
use Rattle.regions.specs.region_laws.Held.{LinkedEntity, StandingLink}
use Rattle.regions.specs.region_laws.IsBasis.{IsBasis}
use Rattle.regions.specs.region_laws.pattern.Allowed.{RegionValues}
use Rattle.regions.proofs.region_laws.entities.Held.{set_of_entity}
use Rattle.region_states.specs.Entities.{focus_entity}
use Rattle.region_states.specs.HoldsFocus.{HoldsFocus}
use Rattle.region_states.proofs.Entities.{has_value}
use Rattle.region_states.proofs.Held.{focus_held}
use Rattle.population.specs.Given.{HasNumbers}
use Rattle.population.specs.LinkStates.{HoldsLink, plain_link}
use Rattle.population.proofs.plain.Numbered.{set_key_is, some_part}
use Rattle.population.proofs.supporting.LinkStates.{link_holds}
use Rattle.host_states.proofs.Hosts.{states_host}
use Rattle.host_states.proofs.focus.Focus.{HasRegion}
use Rattle.forced_entities.specs.Forced.{part_in}
use Rattle.forced_entities.specs.Held.{HasNoNull, HoldsForced, values_at}
use Rattle.forced_entities.specs.declared.member.Forced.{Forced}
use Rattle.forced_entities.proofs.Holds.{entity_forces, link_forces, own_stands}
use Rattle.dangling_keys.specs.Flow.{IsFlow}
use Rattle.dangling_keys.specs.FlowStates.{AreOpen, flow_state, flow_values, values_of_focus}
use Rattle.dangling_keys.specs.LeftOut.{IsMember, IsNumberKey, IsRead, LeavesUnforcedOut, ReadsPart}
use Rattle.dangling_keys.proofs.left_out.EntityRead.{entity_read}
use Rattle.dangling_keys.proofs.left_out.Flow.{flow_once, flow_small}
use Rattle.dangling_keys.proofs.left_out.FlowValues.{flow_admissible, flow_value, given_there}
use Rattle.dangling_keys.proofs.left_out.LinkRead.{link_read, link_state_is, link_value, link_values, link_values_are}

-- a numbered value isn't null
no_number : (n : ℕ) → number n ≢ Null
no_number n same_value = absurd (let never : number n ≡ Null = same_value in cc)

no_letter : (n : ℕ) → letter n ≢ Null
no_letter n same_value = absurd (let never : letter n ≡ Null = same_value in cc)

pub fresh_there : (k : Kind) (outer i : ℕ) (value : Value) → value ≡ fresh k outer i → value ≢ Null
fresh_there kind.Boolean outer i value is null = no_number (5 * i + outer + 7) (sym is ∙ null)
fresh_there kind.Byte outer i value is null = no_number (5 * i + outer + 7) (sym is ∙ null)
fresh_there kind.Int16 outer i value is null = no_number (5 * i + outer + 7) (sym is ∙ null)
fresh_there kind.Int32 outer i value is null = no_number (5 * i + outer + 7) (sym is ∙ null)
fresh_there kind.Int64 outer i value is null = no_number (5 * i + outer + 7) (sym is ∙ null)
fresh_there (kind.Text bound) outer i value is null = no_letter (5 * i + outer + 97) (sym is ∙ null)
fresh_there (kind.Binary bound) outer i value is null = no_number (5 * i + outer + 7) (sym is ∙ null)
fresh_there (kind.Enum enumeration) outer i value is null = no_number (5 * i + outer + 7) (sym is ∙ null)

-- an entity of the member stands, with the values of the symbols of its key
pub record HoldsMember (basis : Basis) (of : Focus) (values : Valuation) (state : State) (one : Forced) : Type 0 where
  pub entity : Entity
  pub stands : Contains (entities_in state one.set) entity
  pub parts : (p : PropId) (part : Symbol) (i : ℕ) → IsFlow basis of part i → part_in basis one p ≡ Some part → value_of basis.schema.model entity p ≡ value_under values part

module _ (basis : Basis) (is : IsBasis basis) (limits : IsWithinLimits basis.schema) (outer : ℕ) (row : outer ≤ 4) (of : Focus) (not_null : List PropId) (values : Valuation) (state : State)
    (legal : IsLegal basis.schema.model state)
    (valued : (one : Symbol) (i : ℕ) → IsFlow basis of one i → value_under values one ≢ Null → (k : Kind) × (value_under values one ≡ fresh k outer i)) where
  abbrev model : EntityModel
  model = basis.schema.model

  -- a part of the set's key is the entity's value
  module _ (u : SetId) (set : EntitySet) (here : At model.sets u.index set) (entity : Entity) (stands : Contains (entities_in state u) entity) where
    pub shows : (p : PropId) → Contains (set_key model u) p → value_beside p (set_key model u) (key_of model entity) ≡ value_of model entity p
    shows p part =
        let fits : HasFittingType model set entity = All-contains (HasFittingType model set) (entities_in state u) entity (legal.sets u set here).types stands in
        let keys : key_props model entity.ty ≡ set_key model u = (inherits_keys model is.sound.model).same entity.ty set.element fits.under ∙ sym (set_key_is model is.sound.model u set here) in
        ap (λ (props : List PropId). value_beside p (set_key model u) (map (value_of model entity) props)) keys ∙ beside_map (value_of model entity) (set_key model u) p part

    -- the value of an entity that is added is none of a symbol
    pub not_added : (p : PropId) → Contains (set_key model u) p → (one : Symbol) (i n : ℕ) → IsFlow basis of one i → value_of model entity p ≡ value_under values one
        → value_of model entity p ≡ fresh_at model outer p (added_value n) → ⊥
    not_added p part one i n flow same_value is_added =
        let own : IsKeyProp model p = key_prop model is.sound.model p set.element (subst (λ (props : List PropId). Contains props p) (set_key_is model is.sound.model u set here) part) in
        let fresh_one : value_of model entity p ≡ fresh own.declared.kind outer (added_value n) = is_added ∙ fresh_is model p own.declared own.is_declared outer (added_value n) in
        let value = valued one i flow (subst (λ (v : Value). v ≢ Null) same_value (fresh_there own.declared.kind outer (added_value n) (value_of model entity p) fresh_one)) in
        let index = (fresh_apart value.0 own.declared.kind outer outer i (added_value n) row row (sym value.1 ∙ sym same_value ∙ fresh_one)).1 in
        let small = flow_small basis is limits of one i flow in
        absurd (omega (arith, index, small))

    -- a part that is read is the symbol that has the value
    pub the_part : (one : Forced) (p : PropId) → Contains (set_key model u) p → (part : Symbol) (j : ℕ) → IsFlow basis of part j → value_of model entity p ≡ value_under values part
        → (found : Option Symbol) → ReadsPart basis outer of values found p (value_beside p (set_key model u) (key_of model entity)) → found ≡ Some part
    the_part one p among part j flow same_value None read = absurd (not_added p among part j 0 flow same_value (sym (shows p among) ∙ read))
    the_part one p among part j flow same_value (Some other) read =
        let fresh_one : value_of model entity p ≡ fresh read.2 outer read.0 = sym (shows p among) ∙ read.3 in
        let value = valued part j flow (subst (λ (v : Value). v ≢ Null) same_value (fresh_there read.2 outer read.0 (value_of model entity p) fresh_one)) in
        let index : j ≡ read.0 = (fresh_apart value.0 read.2 outer outer j read.0 row row (sym value.1 ∙ sym same_value ∙ fresh_one)).1 in
        ap Some (flow_once basis is limits of other part read.0 read.1 (subst (IsFlow basis of part) index flow))

  module _ (told : (u : SetId) (entity : Entity) → Contains (entities_in state u) entity
      → IsNumberKey basis outer u (key_of basis.schema.model entity) ⊎ IsRead basis outer of values (IsMember basis of not_null) u (key_of basis.schema.model entity))
      (holds : (one : Forced) → IsMember basis of not_null one → HoldsMember basis of values state one) where
    pub leaves_out : LeavesUnforcedOut basis outer of values not_null state
    leaves_out = record {
      legal = legal;
      read = told;
      exact = λ u part flows. (
        λ stands.
            (let set = set_of_entity basis state legal u stands.0 stands.1 in
            ⊎_elim
            (λ (numbered : IsNumberKey basis outer u (key_of model stands.0)).
            let first = some_part model is.sound.model u set.0 set.1 in
            let at : PropId → Value = λ q. fresh_at model outer q (added_value numbered.number) in
            let added : value_of model stands.0 first.0 ≡ at first.0 = sym (shows u set.0 set.1 stands.0 stands.1 first.0 first.1) ∙ ap (value_beside first.0 (set_key model u)) numbered.is
            ∙ beside_map at (set_key model u) first.0 first.1 in
            absurd (not_added u set.0 set.1 stands.0 stands.1 first.0 first.1 (part first.0) (flows first.0 first.1).0 numbered.number (flows first.0 first.1).1 (stands.2 first.0 first.1) added))
            (λ (read : IsRead basis outer of values (IsMember basis of not_null) u (key_of model stands.0)). (
              read.one,
              read.is_one,
              read.of_set,
              λ p among.
                  the_part u set.0 set.1 stands.0 stands.1 read.one p among (part p) (flows p among).0 (flows p among).1 (stands.2 p among) (part_in basis read.one p) (read.reads p among),
            ))
            (told u stands.0 stands.1)),
        λ one.
            (let held = holds one.0 one.1 in
            (held.entity, subst (λ (v : SetId). Contains (entities_in state v) held.entity) one.2 held.stands, λ p among. held.parts p (part p) (flows p among).0 (flows p among).1 (one.3 p among))),
      );
    }

-- the state with an entity of a region
module _ (basis : Basis) (is : IsBasis basis) (limits : IsWithinLimits basis.schema) (outer : ℕ) (row : outer ≤ 4) (s : SetId) (region : Region) (listed : Contains (regions_of basis s) region)
    (not_null : List PropId) (open_ : AreOpen basis region not_null) where
  abbrev pub The : Focus
  The = focus.Entity region

  abbrev pub shown : State
  shown = flow_state basis outer The not_null

  abbrev pub own_values : Valuation
  own_values = flow_values basis outer region not_null

  pub of : HasRegion basis outer s region
  of = record { is = is; limits = limits; row = row; listed = listed }

  abbrev pub at : RegionValues basis
  at = record { s = s; region = region; listed = listed; values = own_values }

  pub entity_holds : HoldsFocus basis region own_values shown
  entity_holds = (states_host basis is limits outer row).holds at (flow_admissible basis outer s region of not_null open_)

  abbrev pub linked : LinkedEntity basis
  linked = record {
    state = shown;
    legal = entity_holds.legal;
    s = s;
    entity = focus_entity basis region own_values;
    region = region;
    part = own_values.part;
    held = focus_held basis is at (flow_admissible basis outer s region of not_null open_).allowed shown entity_holds;
  }

  pub entity_no_null : HasNoNull basis not_null (focus_entity basis region own_values)
  entity_no_null p has = subst (λ (v : Value). v ≢ Null) (sym (has_value basis region own_values p (open_ p has).0)) (there p has)
    where
      there : (p : PropId) → Contains not_null p → own_values.prop p ≢ Null
      there p has = let declared = declared_above basis.schema.model is.sound.model p region.ty (open_ p has).0 in given_there basis outer s region of not_null open_ p declared.0 declared.1 has

  -- a symbol that stands for a part of a key has the entity's value
  pub symbol_held : (part : Symbol) (i : ℕ) → IsFlow basis The part i → value_under (values_at basis linked) part ≡ value_under own_values part
  symbol_held symbol.Null i flow = refl
  symbol_held (symbol.Const value) i flow = refl
  symbol_held (symbol.Prop p) i (inl by) = has_value basis region own_values p (key_among basis.schema.model is.sound.model p region.ty by.0)
  symbol_held (symbol.Prop p) i (inr by) = has_value basis region own_values p by.0.among
  symbol_held (symbol.End a first p) i flow = refl

  as_member : (one : Forced) → HoldsForced basis shown (values_at basis linked) one → HoldsMember basis The own_values shown one
  as_member one held = record {
    entity = held.entity;
    stands = held.stands;
    parts = λ p part i flow is_part. held.parts p part is_part ∙ symbol_held part i flow;
  }

  pub member_held : (one : Forced) → IsMember basis The not_null one → HoldsMember basis The own_values shown one
  member_held one (inl own) = as_member one (subst (HoldsForced basis shown (values_at basis linked)) (sym own) (own_stands basis is.sound.model linked))
  member_held one (inr forced) = as_member one (entity_forces basis is.sound.model linked not_null entity_no_null one forced)

  pub entity_leaves : LeavesUnforcedOut basis outer The own_values not_null shown
  entity_leaves = leaves_out basis is limits outer row The not_null own_values shown entity_holds.legal (flow_value basis outer s region of not_null open_)
      (entity_read basis outer s region of not_null open_) member_held

-- the state with a link
module _ (basis : Basis) (is : IsBasis basis) (limits : IsWithinLimits basis.schema) (outer : ℕ) (row : outer ≤ 4) (a : AssocId) (assoc : Assoc) (here : At basis.schema.model.assocs a.index assoc)
    (independent : IsIndependent assoc) (not_null : List PropId) where
  has : HasNumbers basis.schema.model outer
  has = record { sound = is.sound.model; few = limits.model.0; row = row }

  abbrev Link_focus : Focus
  Link_focus = focus.Link a

  pub link_held : HoldsLink basis.schema.model outer a assoc (flow_state basis outer Link_focus not_null)
  link_held = subst (HoldsLink basis.schema.model outer a assoc) (sym (link_state_is basis is outer has a assoc here not_null)) (link_holds basis.schema.model outer has a assoc here independent)

  abbrev link_at : (state : State) → HoldsLink basis.schema.model outer a assoc state → StandingLink basis
  link_at state held = record { state = state; legal = held.legal; a = a; assoc = assoc; is_assoc = here; link = plain_link basis.schema.model outer assoc; stands = held.linked }

  link_member : (one : Forced) → IsMember basis Link_focus not_null one
      → HoldsMember basis Link_focus (link_values basis is outer has a assoc here not_null) (flow_state basis outer Link_focus not_null) one
  link_member one (inl own) = absurd own
  link_member one (inr forced) =
      let held = link_forces basis is.sound.model (link_at (flow_state basis outer Link_focus not_null) link_held) not_null one forced in
      record { entity = held.entity; stands = held.stands; parts = λ p part i flow is_part. held.parts p part is_part }

  pub link_leaves : LeavesUnforcedOut basis outer Link_focus (values_of_focus basis outer Link_focus not_null) not_null (flow_state basis outer Link_focus not_null)
  link_leaves =
      let made : Valuation = link_values basis is outer has a assoc here not_null in
      let same_values : values_of_focus basis outer Link_focus not_null ≡ made = link_values_are basis is outer has a assoc here not_null in
      let Leaves : Valuation → Type 0 = λ values. LeavesUnforcedOut basis outer Link_focus values not_null (flow_state basis outer Link_focus not_null) in
      let Told : Valuation → Type 0 = λ values. (u : SetId) (entity : Entity) → Contains (entities_in (flow_state basis outer Link_focus not_null) u) entity
      → IsNumberKey basis outer u (key_of basis.schema.model entity) ⊎ IsRead basis outer Link_focus values (IsMember basis Link_focus not_null) u (key_of basis.schema.model entity) in
      subst Leaves (sym same_values)
      (leaves_out basis is limits outer row Link_focus not_null made (flow_state basis outer Link_focus not_null) link_held.legal
      (λ one i flow some. link_value basis is outer has a assoc here not_null one i flow)
      (subst Told same_values (link_read basis is outer has a assoc here not_null)) link_member)
