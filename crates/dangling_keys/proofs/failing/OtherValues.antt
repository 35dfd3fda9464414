-- The values of an entity of a region that has the key of an entity of a state, and whose partners are those of numbers.
use Rattle.std.proofs.Common.{◌≡◌, ◌≢◌, ⊎_elim, inl, inr, ℕ, ◌<◌, List, map, Contains, not, sym, ap, subst, ◌∙◌}
use Rattle.std.proofs.lemmas.Bool.{cond_both, cond-true}
use Rattle.std.proofs.lemmas.Bool.Decides.{not_from_Decides}
use Rattle.std.proofs.lemmas.List.Elements.{All-contains}
use Rattle.emc_base.proofs.Lists.{all_from_members}
use Rattle.round_trip.specs.Words.{Assoc, Entity, EntityModel, EntitySet, IsLegal, Kind, Null, Prop, PropId, SetId, State, Value, At, HasAllowedNulls, HasFittingType, HasValuesInDomain, InDomain, entities_in, key_of, key_props, props_of, value_of}
use Rattle.round_trip.specs.soundness.Lookups.{set_key}
use Rattle.round_trip.specs.soundness.mappings.Joined.{IsDependent, prop}
use Rattle.round_trip.specs.soundness.models.Constraints.{IsSoundEnd}
use Rattle.schema_laws.specs.short_values.Fresh.{added_value, fresh, fresh_at, most_indices}
use Rattle.schema_laws.specs.short_values.Places.{is_among}
use Rattle.schema_laws.specs.short_values.Short.{IsShort}
use Rattle.schema_laws.proofs.short_values.Fitting.{key_kind}
use Rattle.schema_laws.proofs.sound_types.Dependent.{sound_kind}
use Rattle.schema_laws.proofs.short_values.Places.{Decides-among, fresh_is}
use Rattle.schema_laws.proofs.short_values.Short.{fresh_fits, fresh_short}
use Rattle.schema_laws.proofs.sound_demand.Keys.{inherits_keys}
use Rattle.schema_laws.proofs.sound_demand.owners.Pairing.{end_key}
use Rattle.schema_laws.proofs.sound_types.Inherited.{key_among}
use Rattle.schema_laws.proofs.state_demand.lists.Places.{map_agree}
use Rattle.condition_logic.specs.declared.atoms.AtomOf.{AtomOf}
use Rattle.regions.specs.Atoms.{Allows, LiesIn}
use Rattle.regions.specs.Basis.{Basis, Host, partner_end}
use Rattle.regions.specs.Patterns.{Valuation}
use Rattle.regions.specs.declared.region.Region.{Region}
use Rattle.regions.specs.region_laws.pattern.Allowed.{HasAllowedParts, IsAllowed}
use Rattle.region_states.specs.Entities.{focus_entity}
use Rattle.region_states.specs.defaults.Admissible.{IsAdmissible}
use Rattle.region_states.specs.defaults.Defaults.{default_valuation}
use Rattle.region_states.proofs.Entities.{has_value}
use Rattle.region_states.proofs.defaults.Defaults.{default_admissible}
use Rattle.region_states.proofs.defaults.Listed.{told_is, tested_no_key}
use Rattle.population.specs.Numbered.{end_number, numbered_key}
use Rattle.population.proofs.plain.Numbered.{end_within, number_small, set_key_is}
use Rattle.host_states.specs.FocusStates.{told_key}
use Rattle.dangling_keys.specs.OtherStates.{other_values}
use Rattle.host_states.proofs.focus.Focus.{HasRegion, in_set, numbers, region_key}
use Rattle.host_states.proofs.focus.HostEnds.{IsLinkedHost, far_sound}

module _ (basis : Basis) (outer : ℕ) (u : SetId) (region : Region) (of : HasRegion basis outer u region) (c : State) (legal : IsLegal basis.schema.model c) (e : Entity)
    (stands : Contains (entities_in c u) e)
    (numbered : (p : PropId) → Contains (set_key basis.schema.model u) p → (k : Kind) × (i : ℕ) × (i < most_indices) × (value_of basis.schema.model e p ≡ fresh k outer i))
    (given : PropId → Value) (alike : (p : PropId) → Contains (set_key basis.schema.model u) p → given p ≡ value_of basis.schema.model e p) where
  abbrev model : EntityModel
  model = basis.schema.model

  abbrev keys : List PropId
  keys = key_props model region.ty

  abbrev values : Valuation
  values = other_values basis outer region given

  abbrev usual : Valuation
  usual = default_valuation basis outer region

  usual_is : IsAdmissible basis outer region usual
  usual_is = default_admissible basis of.is of.limits u region of.listed outer of.row

  key_same : keys ≡ set_key model u
  key_same = region_key basis outer u region of

  alike_in : (p : PropId) → Contains keys p → given p ≡ value_of model e p
  alike_in p part = alike p (subst (λ (props : List PropId). Contains props p) key_same part)

  -- a value is the entity's, or a usual one
  by_key : (p : PropId) (P : Value → Type 0) → (Contains keys p → P (value_of model e p)) → (¬ Contains keys p → P (usual.prop p)) → P (values.prop p)
  by_key p P part other = cond_both (is_among p keys) (given p) (usual.prop p) P
      (λ told. let among = (Decides-among keys p).0 told in subst P (sym (alike_in p among)) (part among))
      (λ told. other (not_from_Decides (is_among p keys) (Decides-among keys p) told))

  -- the set, of whose key the parts are
  set : (set : EntitySet) × At model.sets u.index set
  set = in_set basis outer u region of

  fits : HasFittingType model set.0 e
  fits = All-contains (HasFittingType model set.0) (entities_in c u) e (legal.sets u set.0 set.1).types stands

  own_keys : key_props model e.ty ≡ set_key model u
  own_keys = (inherits_keys model of.is.sound.model).same e.ty set.0.element fits.under ∙ sym (set_key_is model of.is.sound.model u set.0 set.1)

  key_value : (p : PropId) → Contains keys p → values.prop p ≡ value_of model e p
  key_value p part = cond-true (is_among p keys) (given p) (usual.prop p) ((Decides-among keys p).1 part) ∙ alike_in p part

  -- it has the entity's key
  pub other_key_is : key_of model (focus_entity basis region values) ≡ key_of model e
  other_key_is =
      map_agree (value_of model (focus_entity basis region values)) (value_of model e) keys
      (λ p part. has_value basis region values p (key_among model of.is.sound.model p region.ty part) ∙ key_value p part)
      ∙ ap (map (value_of model e)) (key_same ∙ sym own_keys)

  pub other_part : (p : PropId) → Contains (set_key model u) p → value_of model (focus_entity basis region values) p ≡ value_of model e p
  other_part p part =
      let among : Contains keys p = subst (λ (props : List PropId). Contains props p) (sym key_same) part in
      has_value basis region values p (key_among model of.is.sound.model p region.ty among) ∙ key_value p among

  -- a part of the entity's key is in its domain, and short
  key_allowed : (p : PropId) (declared : Prop) → Contains keys p → At model.props p.index declared → Allows declared (value_of model e p)
  key_allowed p declared part here =
      let in_own : Contains (key_props model e.ty) p = subst (λ (props : List PropId). Contains props p) (key_same ∙ sym own_keys) part in
      let among : Contains (props_of model e.ty) p = key_among model of.is.sound.model p e.ty in_own in
      let nulls : HasAllowedNulls model e = All-contains (HasAllowedNulls model) (entities_in c u) e (legal.sets u set.0 set.1).nulls stands in
      let domains : HasValuesInDomain model e = All-contains (HasValuesInDomain model) (entities_in c u) e (legal.sets u set.0 set.1).domains stands in
      ⊎_elim
      (λ (null : value_of model e p ≡ Null). inl (null, nulls p declared (record { among = among; is_declared = here }) null))
      (λ (domain : InDomain (value_of model e p) declared.kind). inr domain)
      (domains p declared (record { among = among; is_declared = here }))

  key_short : (p : PropId) → Contains keys p → IsShort (value_of model e p)
  key_short p part =
      let told = numbered p (subst (λ (props : List PropId). Contains props p) key_same part) in
      subst IsShort (sym told.3) (fresh_short told.0 outer told.1 of.row told.2)

  pub other_short : (p : PropId) → Contains (props_of model region.ty) p → IsDependent model p → values.prop p ≢ Null → IsShort (values.prop p)
  other_short p among dependent = by_key p (λ (v : Value). v ≢ Null → IsShort v) (λ part there. key_short p part) (λ no_part there. usual_is.dependent p among dependent there)

  -- a part of a partner's key is numbered
  numbered_parts : (host : Host) (assoc : Assoc) → At model.assocs host.assoc.index assoc → HasAllowedParts model (partner_end host.first_hosts assoc) (values.part host.assoc (not host.first_hosts))
  numbered_parts host assoc here p declared part is_declared =
      let number = end_number (not host.first_hosts) host.assoc in
      let below = number_small model outer (numbers basis outer u region of) number (end_within model of.is.sound.model host.assoc assoc here (not host.first_hosts)) in
      let P : Value → Type 0 = λ v. InDomain v declared.kind in
      subst P (sym (fresh_is model p declared is_declared outer (added_value number)))
      (fresh_fits declared.kind (key_kind model of.is.sound.model (partner_end host.first_hosts assoc).ty p part declared is_declared) (sound_kind model of.is.sound.model p declared is_declared)
      outer (added_value number) of.row below)

  pub other_allowed : IsAllowed basis region values
  other_allowed = record {
    atoms = all_from_members (λ (told : AtomOf). LiesIn (basis.constants (prop told.prop)) told.atom (values.prop told.prop)) region.atoms (λ told there.
        (let is_told = told_is basis of.is u region of.listed told there in
        by_key told.prop (LiesIn (basis.constants (prop told.prop)) told.atom)
        (λ part. absurd (tested_no_key basis of.is told.prop is_told.declared is_told.is_declared region.ty is_told.of_type is_told.tested part))
        (λ no_part. All-contains (λ (one : AtomOf). LiesIn (basis.constants (prop one.prop)) one.atom (usual.prop one.prop)) region.atoms told usual_is.allowed.atoms there)));
    props = λ p declared among here. by_key p (Allows declared) (λ part. key_allowed p declared part here) (λ no_part. usual_is.allowed.props p declared among here);
    parts = λ host assoc hosted linked here. numbered_parts host assoc here;
  }

  -- the partner's key is that of the number of its end
  pub partner_numbered : (host : Host) (assoc : Assoc) → IsLinkedHost basis u region host assoc
      → told_key basis values host assoc ≡ numbered_key model outer (partner_end host.first_hosts assoc).set (end_number (not host.first_hosts) host.assoc)
  partner_numbered host assoc by =
      let far = partner_end host.first_hosts assoc in
      let sound : IsSoundEnd model far = far_sound basis of.is u region of.listed host assoc by in
      let at : PropId → Value = λ p. fresh_at model outer p (added_value (end_number (not host.first_hosts) host.assoc)) in
      ap (map at) (end_key basis.schema of.is.sound far sound)
