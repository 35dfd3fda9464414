-- Each entity of the state with an entity of a region is one of a number, or its key is told by the focus or by what this forces.
use Rattle.std.proofs.Common.{◌≡◌, ◌≢◌, ◌⊎◌, ⊎_elim, inl, inr, ℕ, List, map, Contains, Bool, true, false, not, Option, Some, None, refl, sym, subst, ◌∙◌}
use Rattle.std.proofs.lemmas.Bool.{cond-true}
use Rattle.std.proofs.lemmas.List.Elements.{All-contains}
use Rattle.emc_base.proofs.Joined.{in_flat_map}
use Rattle.emc_base.proofs.Lists.{all_from_members}
use Rattle.emc_base.proofs.Mapped.{contains_map}
use Rattle.edm_types.specs.IsA.{same as itself}
use Rattle.round_trip.specs.Words.{SetId, PropId, Value, Null, Assoc, Constraint, End, Entity, EntityModel, Prop, At, IsA, dependent_end, entities_in, key_of, key_props, principal_end, props_of, value_beside, value_of, values_of}
use Rattle.round_trip.specs.soundness.Lookups.{set_key}
use Rattle.round_trip.specs.soundness.models.Constraints.{HasMatchedLists, IsSoundConstraint, IsSoundEnd}
use Rattle.round_trip.specs.soundness.mappings.Joined.{IsDependent, prop}
use Rattle.condition_logic.specs.declared.atoms.Atom.{Atom}
use Rattle.condition_logic.specs.declared.atoms.Atom.TheVariants as atom
use Rattle.schema_laws.specs.short_values.Fresh.{fresh}
use Rattle.schema_laws.specs.short_values.Places.{is_among, place_in}
use Rattle.schema_laws.specs.short_values.Fresh as number_of
use Rattle.schema_laws.proofs.short_values.Places.{Decides-among}
use Rattle.schema_laws.proofs.short_values.Short.{domain_not_null}
use Rattle.schema_laws.proofs.sound_demand.owners.Pairing.{end_key}
use Rattle.schema_laws.proofs.sound_types.Dependent.{dependent_kind}
use Rattle.schema_laws.proofs.sound_types.Inherited.{inherits_prop}
use Rattle.schema_laws.proofs.state_demand.owners.Owners.{beside_map}
use Rattle.schema_laws.proofs.state_demand.writings.Decisions.{so_or_not}
use Rattle.regions.specs.Atoms.{LiesIn, atom_at}
use Rattle.regions.specs.Basis.{Basis, Host, partner_end}
use Rattle.regions.specs.Patterns.{Valuation}
use Rattle.regions.specs.declared.pattern.Focus.{Focus}
use Rattle.regions.specs.declared.pattern.Focus.TheVariants as focus
use Rattle.regions.specs.declared.pattern.Symbol.{Symbol}
use Rattle.regions.specs.declared.pattern.Symbol.TheVariants as symbol
use Rattle.regions.specs.declared.region.Region.{Region}
use Rattle.regions.specs.region_laws.pattern.Allowed.{end_at}
use Rattle.regions.proofs.region_laws.listing.Possible.{type_fits}
use Rattle.regions.proofs.region_laws.pattern.Ends.{other_end}
use Rattle.regions.proofs.region_laws.pattern.types.Regions.{atom_found}
use Rattle.region_states.specs.Entities.{focus_entity}
use Rattle.region_states.specs.defaults.Admissible.{IsAdmissible}
use Rattle.region_states.specs.defaults.Defaults.{some_value, value_by}
use Rattle.region_states.proofs.Entities.{has_value}
use Rattle.region_states.proofs.defaults.Defaults.{told_tells}
use Rattle.population.specs.Principals.{AsksFor, principal_key, principals}
use Rattle.population.specs.Support.{IsTaken, support}
use Rattle.population.specs.declared.placed.Placed.{Placed}
use Rattle.population.specs.declared.placed.PlacedKey.{PlacedKey}
use Rattle.population.proofs.principals.Asked.{asked_of}
use Rattle.population.proofs.principals.PrincipalKeys.{same_length, sound_constraint}
use Rattle.population.proofs.principals.Principals.{is_dependent_by, principal_key_is}
use Rattle.population.proofs.supporting.Ends.{given_from}
use Rattle.population.proofs.supporting.Entities.{entities_are}
use Rattle.host_states.specs.FocusStates.{given_by, links_by, linked_hosts, partner_of, told_key, wanted_by}
use Rattle.host_states.proofs.focus.Focus.{HasRegion, IsGiven, IsMade, a_partner, focus_key_is, given_cases, in_set, numbers, partner_has, region_key, region_set, the_focus}
use Rattle.host_states.proofs.focus.FocusLinks.{given_well, keys_well}
use Rattle.host_states.proofs.pairs.Rivals.{focus_made, focus_wants_short}
use Rattle.host_states.proofs.focus.HostEnds.{IsLinkedHost, far_sound}
use Rattle.forced_entities.specs.Forced.{HasValueAtom, IsForced, IsKnown, begins, forced_at, own_member, part_beside, part_in, principal_of}
use Rattle.forced_entities.specs.declared.member.Forced.{Forced}
use Rattle.forced_entities.proofs.Beside.{beside, part_map}
use Rattle.dangling_keys.specs.Flow.{IsOwnDependent, IsPartnerPart}
use Rattle.dangling_keys.specs.FlowStates.{AreOpen, flow_state, flow_values}
use Rattle.dangling_keys.specs.LeftOut.{IsMember, IsNumberKey, IsRead, ReadsPart}
use Rattle.dangling_keys.proofs.left_out.FlowValues.{dependent_is_fresh, flow_admissible, key_value, kept_value, part_value, usual_value}
use Rattle.dangling_keys.proofs.left_out.Reading.{ReadForced, ReadMember, as_member, beyond_zero, stands_read}
use Rattle.dangling_keys.proofs.left_out.Serving.{plain_leads}

module _ (basis : Basis) (outer : ℕ) (s : SetId) (region : Region) (of : HasRegion basis outer s region) (not_null : List PropId) (open_ : AreOpen basis region not_null) where
  abbrev model : EntityModel
  model = basis.schema.model

  abbrev pub values : Valuation
  values = flow_values basis outer region not_null

  abbrev pub entity : Entity
  entity = focus_entity basis region values

  abbrev pub The : Focus
  The = focus.Entity region

  pub admissible : IsAdmissible basis outer region values
  admissible = flow_admissible basis outer s region of not_null open_

  pub made : IsMade basis outer s region values (linked_hosts basis region) (wanted_by basis outer (given_by basis outer (linked_hosts basis region) region values))
  made = focus_made basis outer s region of values admissible (wanted_by basis outer (given_by basis outer (linked_hosts basis region) region values))
      (focus_wants_short basis outer s region of values admissible) (λ to there. there)

  abbrev pub given : List Placed
  given = given_by basis outer (linked_hosts basis region) region values

  abbrev pub wanted : List PlacedKey
  wanted = wanted_by basis outer given

  abbrev pub Forces : SetId → List Value → Type 0
  Forces = ReadForced basis outer (numbers basis outer s region of) The not_null values given wanted

  abbrev pub Reads : SetId → List Value → Type 0
  Reads = ReadMember basis outer (numbers basis outer s region of) The not_null values given wanted

  -- the value of a property of the region's type
  value_is : (p : PropId) → Contains (props_of model region.ty) p → value_of model entity p ≡ values.prop p
  value_is p among = has_value basis region values p among

  -- the key of the entity is told by its own properties
  own_read : Reads s (key_of model entity)
  own_read =
      let set = in_set basis outer s region of in
      let keys = key_props model region.ty in
      let Part : List PropId → Type 0 = λ props. (p : PropId) → Contains props p → ReadsPart basis outer The values (part_in basis (own_member basis region) p) p (value_beside p props (map values.prop props)) in
      let parts : Part keys = λ p part.
      (let told = key_value basis outer s region of not_null open_ p part in
      let value : value_beside p keys (map values.prop keys) ≡ values.prop p = beside_map values.prop keys p part in
      subst (λ (found : Option Symbol). ReadsPart basis outer The values found p (value_beside p keys (map values.prop keys))) (sym (part_map (λ q. Some (symbol.Prop q)) keys p part))
      (number_of.focus_key (place_in p keys), inl (part, refl), told.0, value ∙ told.1, value)) in
      record {
        one = own_member basis region;
        is_one = inl refl;
        of_set = region_set basis outer s region of;
        under = (set.0, set.1, (type_fits basis of.is s region of.listed set.0 set.1).1);
        reads = λ p part. subst (λ (key : List Value). ReadsPart basis outer The values (part_in basis (own_member basis region) p) p (value_beside p (set_key model s) key))
            (sym (focus_key_is basis outer s region of values admissible)) (subst Part (region_key basis outer s region of) parts p part);
      }

  -- that of a partner by the flag
  partner_read : (host : Host) (assoc : Assoc) → IsLinkedHost basis s region host assoc → Forces (partner_end host.first_hosts assoc).set (told_key basis values host assoc)
  partner_read host assoc by =
      let far : End = partner_end host.first_hosts assoc in
      let sound : IsSoundEnd model far = far_sound basis of.is s region of.listed host assoc by in
      let keys = key_props model far.ty in
      let at_region : Contains (basis.hosts region.set) host = subst (λ (u : SetId). Contains (basis.hosts u) host) (sym (region_set basis outer s region of)) by.hosts in
      let part_at : PropId → Value = values.part host.assoc (not host.first_hosts) in
      let symbol_at : PropId → Option Symbol = λ p. Some (symbol.End host.assoc (not host.first_hosts) p) in
      let one : Forced = forced_at basis far.set far.ty symbol_at in
      let Part : List PropId → Type 0 = λ props. (p : PropId) → Contains props p → ReadsPart basis outer The values (part_in basis one p) p (value_beside p props (map part_at keys)) in
      let parts : Part keys = λ p part.
      (let own : IsPartnerPart basis region host.assoc (not host.first_hosts) p = record {
        host = host;
        hosts = at_region;
        of_assoc = refl;
        linked = by.linked;
        at_far = refl;
        assoc = assoc;
        is_assoc = by.is_assoc;
        part = subst (λ (end : End). Contains (key_props model end.ty) p) (sym (other_end host.first_hosts assoc)) part;
      } in
      let told = part_value basis outer s region of not_null open_ host.assoc (not host.first_hosts) p own in
      let value : value_beside p keys (map part_at keys) ≡ part_at p = beside_map part_at keys p part in
      subst (λ (found : Option Symbol). ReadsPart basis outer The values found p (value_beside p keys (map part_at keys))) (sym (part_map symbol_at keys p part))
      (number_of.partner_key host.assoc.index (place_in p (key_props model (end_at (not host.first_hosts) assoc).ty)), (own, refl), told.0, value ∙ told.1, value)) in
      record {
        one = one;
        is_one = begins one (inl (record { host = host; hosts = at_region; linked = by.linked; assoc = assoc; is_assoc = by.is_assoc; is = refl }));
        of_set = refl;
        under = sound.under;
        reads = subst Part (end_key basis.schema of.is.sound far sound) parts;
      }

  -- which entities tell these keys
  pub own_told : (read : Reads s (key_of model entity)) × (read.one ≡ own_member basis region)
  unfolding own_read
  own_told = (own_read, refl)

  pub partner_told : (host : Host) (assoc : Assoc) → IsLinkedHost basis s region host assoc
      → (read : Forces (partner_end host.first_hosts assoc).set (told_key basis values host assoc)) × (read.one.ty ≡ (partner_end host.first_hosts assoc).ty)
  unfolding partner_read
  partner_told host assoc by = (partner_read host assoc by, refl)

  -- a given entity is the focus or a partner
  given_read : (placed : Placed) → IsGiven basis outer s region of values admissible (linked_hosts basis region) made.each made.order placed → Reads placed.set (key_of model placed.entity)
  given_read _ the_focus = subst (λ (u : SetId). Reads u (key_of model entity)) (sym (region_set basis outer s region of)) own_read
  given_read _ (a_partner host assoc there by) = subst (Reads (partner_end host.first_hosts assoc).set) (sym (partner_has basis outer s region of values admissible host assoc by))
      (as_member basis outer (numbers basis outer s region of) The not_null values given wanted (partner_end host.first_hosts assoc).set (told_key basis values host assoc) (partner_read host assoc by))

  -- a dependent property that isn't null is known not to be
  known : (d : PropId) → IsDependent model d → Contains (props_of model region.ty) d → values.prop d ≢ Null → IsKnown basis region not_null d
  known d dependent among there = ⊎_elim
      (λ (part : Contains (key_props model region.ty) d). inl part)
      (λ (no_part : ¬ Contains (key_props model region.ty) d). let declared = dependent_kind model of.is.sound.model d dependent in by declared.0 declared.1 no_part declared.0.nullable refl)
      (so_or_not (is_among d (key_props model region.ty)) (Decides-among (key_props model region.ty) d))
    where
      by : (declared : Prop) (here : At model.props d.index declared) → ¬ Contains (key_props model region.ty) d → (nullable : Bool) → declared.nullable ≡ nullable → IsKnown basis region not_null d
      by declared here no_part false needed = inr (inl (declared, here, needed))
      by declared here no_part true may = ⊎_elim
          (λ (given_one : Contains not_null d). inr (inr (inr given_one)))
          (λ (not_given : ¬ Contains not_null d).
          by_atom (atom_at region.atoms d) refl (kept_value basis outer s region of not_null open_ d declared here not_given ∙ usual_value basis outer s region of not_null open_ d declared here no_part))
          (so_or_not (is_among d not_null) (Decides-among not_null d))
        where
          value_atom : (one : Atom) → atom_at region.atoms d ≡ Some one → ¬ LiesIn (basis.constants (prop d)) one Null → HasValueAtom basis region d
          value_atom one at some =
              let found = atom_found region.atoms d one at in
              let P : PropId → Atom → Type 0 = λ q it. ¬ LiesIn (basis.constants (prop q)) it Null in
              record { told = found.0; is_told = found.1; of = found.2; some = λ lies. some (subst (λ (it : Atom). LiesIn (basis.constants (prop d)) it Null) found.3 lies) }

          by_atom : (found : Option Atom) → atom_at region.atoms d ≡ found → values.prop d ≡ value_by basis outer region.ty d declared found → IsKnown basis region not_null d
          by_atom None at value = absurd (there (value ∙ cond-true declared.nullable Null (some_value basis outer region.ty d declared) may))
          by_atom (Some atom.Null) at value = absurd (there value)
          by_atom (Some (atom.Is one)) at value =
              let told = told_tells basis of.is of.limits s region of.listed d declared here among (atom.Is one) at in
              inr (inr (inl (value_atom (atom.Is one) at (λ lies. domain_not_null one declared.kind told.0 (sym lies)))))
          by_atom (Some atom.Other) at value = inr (inr (inl (value_atom atom.Other at (λ lies. lies.0 refl))))

  -- the principal that the entity asks for is forced
  module _ (to : PlacedKey) (asks : AsksFor model region.set entity to) where
    abbrev assoc : Assoc
    assoc = asks.assoc

    abbrev constraint : Constraint
    constraint = asks.constraint

    sound_one : IsSoundConstraint model assoc constraint
    sound_one = sound_constraint model of.is.sound.model assoc constraint asks.is_assoc asks.constrained

    lists : HasMatchedLists model assoc constraint
    lists = sound_one.lists

    of_type : (d : PropId) → Contains constraint.dependent d → Contains (props_of model region.ty) d
    of_type d among = inherits_prop model of.is.sound.model d region.ty (dependent_end assoc constraint).ty asks.covers
        (All-contains (Contains (props_of model (dependent_end assoc constraint).ty)) constraint.dependent d lists.dependent among)

    dependent_by : (d : PropId) → Contains constraint.dependent d → IsDependent model d
    dependent_by d among = is_dependent_by model of.is.sound.model assoc constraint asks.is_assoc asks.constrained d among

    value_there : (d : PropId) → Contains constraint.dependent d → values.prop d ≢ Null
    value_there d among null = All-contains (λ (v : Value). v ≢ Null) (values_of model entity constraint.dependent) (value_of model entity d) asks.there
        (contains_map (value_of model entity) constraint.dependent d among) (value_is d (of_type d among) ∙ null)

    abbrev next : Forced
    next = principal_of basis assoc constraint (λ q. Some (symbol.Prop q))

    next_forced : IsForced basis The not_null next
    next_forced = begins next (inr (record {
      assoc = assoc;
      is_assoc = asks.is_assoc;
      by = record {
        constraint = constraint;
        constrained = asks.constrained;
        at_end = asks.at_end;
        covers = asks.covers;
        asks = all_from_members (IsKnown basis region not_null) constraint.dependent (λ d among. known d (dependent_by d among) (of_type d among) (value_there d among));
        is = refl;
      };
    }))

    -- a dependent property stands for a part of a key
    own_part : (d : PropId) → Contains constraint.dependent d → (value : Value) → value ≡ values.prop d → (p : PropId) → ReadsPart basis outer The values (Some (symbol.Prop d)) p value
    own_part d among value is p = ⊎_elim
        (λ (part : Contains (key_props model region.ty) d). let told = key_value basis outer s region of not_null open_ d part in
        (number_of.focus_key (place_in d (key_props model region.ty)), inl (part, refl), told.0, is ∙ told.1, is))
        (λ (no_part : ¬ Contains (key_props model region.ty) d).
        let own : IsOwnDependent basis region d = record { among = of_type d among; no_key = no_part; dependent = dependent_by d among } in
        let told = dependent_is_fresh basis outer s region of not_null open_ d own (value_there d among) in
        (number_of.dependent_value (place_in d (props_of model region.ty)), inr (own, refl), told.0, is ∙ told.1, is))
        (so_or_not (is_among d (key_props model region.ty)) (Decides-among (key_props model region.ty) d))

    asked_read : Forces to.set to.key
    asked_read =
        let element = lists.element in
        let end = principal_end assoc constraint in
        let keys = key_props model end.ty in
        let values_there : List Value = values_of model entity constraint.dependent in
        let at : PropId → Value = λ q. value_beside q constraint.principal values_there in
        let told : PropId → Option Symbol = λ q. part_beside q constraint.principal (map (λ r. Some (symbol.Prop r)) constraint.dependent) in
        let P : PlacedKey → Type 0 = λ one. Forces one.set one.key in
        let Part : List PropId → Type 0 = λ props. (p : PropId) → Contains props p → ReadsPart basis outer The values (part_in basis next p) p (value_beside p props (principal_key model assoc constraint values_there)) in
        let parts : Part keys = λ p part.
        (let in_list : Contains constraint.principal p = All-contains (Contains constraint.principal) keys p lists.principal.all part in
        let by = beside constraint.principal constraint.dependent (sym (same_length model assoc constraint sound_one)) p in_list in
        let part_is : part_in basis next p ≡ Some (symbol.Prop by.other) = part_map told keys p part ∙ by.part (λ r. Some (symbol.Prop r)) in
        let value : value_beside p keys (map at keys) ≡ values.prop by.other = beside_map at keys p part ∙ by.value (value_of model entity) ∙ value_is by.other (of_type by.other by.among) in
        subst (λ (found : Option Symbol). ReadsPart basis outer The values found p (value_beside p keys (map at keys))) (sym part_is) (own_part by.other by.among (value_beside p keys (map at keys)) value p)) in
        let read : Forces end.set (principal_key model assoc constraint values_there) = record {
          one = next;
          is_one = next_forced;
          of_set = refl;
          under = (element.0, element.1, subst (IsA model end.ty) (sym element.2) (itself end.ty));
          reads = subst Part (sym (principal_key_is model of.is.sound.model assoc constraint asks.is_assoc asks.constrained)) parts;
        } in
        subst P (sym asks.is) read

  -- what a given entity asks for is forced, or taken
  asked_given : (placed : Placed) → IsGiven basis outer s region of values admissible (linked_hosts basis region) made.each made.order placed → (to : PlacedKey)
      → Contains (principals model placed.set placed.entity) to → ¬ IsTaken model outer given to → Forces to.set to.key
  asked_given _ the_focus to asked free = asked_read to (asked_of model of.is.sound.model region.set entity to asked)
  asked_given _ (a_partner host assoc there by) to asked free =
      let far : End = partner_end host.first_hosts assoc in
      let sound : IsSoundEnd model far = far_sound basis of.is s region of.listed host assoc by in
      plain_leads basis outer (numbers basis outer s region of) The not_null values far.set far.ty (told_key basis values host assoc) sound.concrete sound.under (partner_read host assoc by) to
      (asked_of model of.is.sound.model far.set (partner_of basis outer values host assoc).entity to asked)
      (beyond_zero basis outer (numbers basis outer s region of) The not_null values given wanted to free)

  pub entity_read : (u : SetId) (one : Entity) → Contains (entities_in (flow_state basis outer The not_null) u) one
      → IsNumberKey basis outer u (key_of model one) ⊎ IsRead basis outer The values (IsMember basis The not_null) u (key_of model one)
  entity_read u one stands = stands_read basis outer (numbers basis outer s region of) The not_null values given wanted (λ to asked free.
      (let found = in_flat_map (λ (placed : Placed). principals model placed.set placed.entity) given to asked in
      asked_given found.0 (given_cases basis outer s region of values admissible (linked_hosts basis region) made.each made.order found.0 found.1) to found.2 free))
      (given_well basis outer s region values (linked_hosts basis region) wanted made) (keys_well basis outer s region values (linked_hosts basis region) wanted made)
      (λ v other there.
      (let found = given_from given v other there in
      subst (λ (e : Entity). Reads v (key_of model e)) found.3 (subst (λ (w : SetId). Reads w (key_of model found.0.entity)) found.2
      (given_read found.0 (given_cases basis outer s region of values admissible (linked_hosts basis region) made.each made.order found.0 found.1)))))
      u one (subst (λ (list : List Entity). Contains list one)
      (entities_are model outer given (support model outer given wanted) (links_by basis region values (linked_hosts basis region)) u) stands)
