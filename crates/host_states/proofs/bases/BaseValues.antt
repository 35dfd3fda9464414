-- The values of a region with a stated key: they are admissible, and no other dependent property has a value of the key.
use Rattle.std.proofs.Common.{◌≡◌, ◌≢◌, inr, ℕ, ◌<◌, ◌≤◌, List, Contains, Option, Some, None, refl, sym, ap, subst, ◌∙◌}
use Rattle.std.specs.Option.{option_map_or}
use Rattle.std.proofs.lemmas.Bool.{cond-true, cond_both}
use Rattle.std.proofs.lemmas.Bool.Decides.{not_from_Decides}
use Rattle.std.proofs.lemmas.List.Elements.{All-contains}
use Rattle.std.proofs.lemmas.Slice.Zip.{AllZip-long}
use Rattle.emc_base.proofs.Lists.{all_from_members, at_once}
use Rattle.emc_base.proofs.Members.{contains_nil}
use Rattle.round_trip.specs.Words.{SetId, PropId, Value, Null, Prop, Entity, Kind, At, InDomain, key_of, key_props, props_of, value_beside, value_of}
use Rattle.round_trip.specs.soundness.mappings.Joined.{IsDependent, prop}
use Rattle.condition_logic.specs.declared.atoms.Atom.{Atom}
use Rattle.condition_logic.specs.declared.atoms.Atom.TheVariants as atom
use Rattle.condition_logic.specs.declared.atoms.AtomOf.{AtomOf}
use Rattle.schema_laws.specs.short_values.Fresh.{dependent_value, focus_key, fresh, most_indices}
use Rattle.schema_laws.specs.short_values.Places.{is_among, is_dependent, place_in}
use Rattle.schema_laws.specs.short_values.Short.{IsShort}
use Rattle.schema_laws.proofs.sound_demand.Keys.{keys_apart}
use Rattle.schema_laws.proofs.sound_demand.tuples.TupleKeys.{key_beside}
use Rattle.schema_laws.proofs.sound_types.Dependent.{dependent_is}
use Rattle.schema_laws.proofs.sound_types.Inherited.{declared_above, key_among}
use Rattle.schema_laws.proofs.short_values.Places.{Decides-among, Decides-dependent}
use Rattle.schema_laws.proofs.short_values.Short.{domain_not_null}
use Rattle.schema_laws.proofs.state_demand.lists.Places.{map_agree}
use Rattle.regions.specs.declared.region.Region.{Region}
use Rattle.regions.specs.Atoms.{Allows, LiesIn, atom_at}
use Rattle.regions.specs.Basis.{Basis, Host}
use Rattle.regions.specs.Patterns.{Valuation}
use Rattle.regions.specs.region_laws.pattern.Allowed.{IsAllowed}
use Rattle.region_states.specs.Entities.{focus_entity}
use Rattle.region_states.specs.defaults.Admissible.{IsAdmissible}
use Rattle.region_states.specs.defaults.Candidates.{first_free}
use Rattle.region_states.specs.defaults.Defaults.{declared_value, default_valuation, default_value, some_value, value_by}
use Rattle.region_states.proofs.Entities.{has_value}
use Rattle.region_states.proofs.defaults.Candidates.{plain_key}
use Rattle.region_states.proofs.defaults.Defaults.{default_admissible}
use Rattle.region_states.proofs.defaults.Listed.{IsTold, found_told, tested_no_key, told_is}
use Rattle.region_states.proofs.defaults.Valued.{atom_tells}
use Rattle.region_states.proofs.defaults.groups.Constants.{dependent_none}
use Rattle.region_states.proofs.defaults.indices.Bounds.{dependent_index}
use Rattle.population.proofs.plain.Plain.{beside_told}
use Rattle.host_states.specs.BaseStates.{FitsProp, IsOuterKey, IsStatedKey, keyed_values}
use Rattle.host_states.specs.FocusStates.{few_hosts, given_by, wanted_by}
use Rattle.host_states.proofs.bases.Clear.{IsFree, beside_among, fresh_free}
use Rattle.host_states.proofs.focus.Focus.{HasRegion, IsMade, numbers, wanted_short}
use Rattle.host_states.proofs.focus.HostEnds.{few_is, few_order, linked_is}
use Rattle.host_states.proofs.bases.Refers.{HasFreeValues}

module _ (basis : Basis) (outer : ℕ) (s : SetId) (region : Region) (of : HasRegion basis outer s region) (key : List Value) (stated : IsStatedKey basis region key)
    (is_outer : IsOuterKey outer key) where
  abbrev props : List PropId
  props = key_props basis.schema.model region.ty

  abbrev values : Valuation
  values = keyed_values basis outer region key

  abbrev entity : Entity
  entity = focus_entity basis region values

  defaults : IsAdmissible basis outer region (default_valuation basis outer region)
  defaults = default_admissible basis of.is of.limits s region of.listed outer of.row

  -- a value is a part of the key, or the one where nothing is said
  either : (p : PropId) (P : Value → Type 0) → (Contains props p → P (value_beside p props key)) → (¬ Contains props p → P (default_value basis outer region p)) → P (values.prop p)
  either p P part default = cond_both (is_among p props) (value_beside p props key) (default_value basis outer region p) P
      (λ told. part ((Decides-among props p).0 told))
      (λ told. default (not_from_Decides (is_among p props) (Decides-among props p) told))

  -- a part of the key is in the domain of its property
  part_fits : (p : PropId) (declared : Prop) → At basis.schema.model.props p.index declared → Contains props p → InDomain (value_beside p props key) declared.kind
  part_fits p declared here part =
      let told : FitsProp basis.schema.model p (value_beside p props key) = beside_told (FitsProp basis.schema.model) props key stated.fits p part in
      let P : Prop → Type 0 = λ one. InDomain (value_beside p props key) one.kind in
      subst P (at_once basis.schema.model.props p.index told.0 declared told.1 here) told.2

  -- and it is one of the key's values
  part_among : (p : PropId) → Contains props p → Contains key (value_beside p props key)
  part_among p part =
      let told : FitsProp basis.schema.model p (value_beside p props key) = beside_told (FitsProp basis.schema.model) props key stated.fits p part in
      beside_among props key p (domain_not_null (value_beside p props key) told.0.kind told.2)

  keyed_allowed : IsAllowed basis region values
  keyed_allowed = record {
    atoms = all_from_members (λ (told : AtomOf). LiesIn (basis.constants (prop told.prop)) told.atom (values.prop told.prop)) region.atoms (λ told there.
        let of_type = told_is basis of.is s region of.listed told there in
        let Lies : AtomOf → Type 0 = λ one. LiesIn (basis.constants (prop one.prop)) one.atom (default_value basis outer region one.prop) in
        either told.prop (LiesIn (basis.constants (prop told.prop)) told.atom)
        (λ part. absurd (tested_no_key basis of.is told.prop of_type.declared of_type.is_declared region.ty of_type.of_type of_type.tested part))
        (λ no_part. All-contains Lies region.atoms told defaults.allowed.atoms there));
    props = λ p declared among here. either p (Allows declared) (λ part. inr (part_fits p declared here part)) (λ no_part. defaults.allowed.props p declared among here);
    parts = defaults.allowed.parts;
  }

  pub keyed_admissible : IsAdmissible basis outer region values
  keyed_admissible = record {
    allowed = keyed_allowed;
    keys = λ p part. (
        let IsOuter : Value → Type 0 = λ v. (kind : Kind) (i : ℕ) → i < most_indices → v ≢ fresh kind outer i in
        let IsApart : Value → Type 0 = λ v. (kind : Kind) (i : ℕ) → 4 ≤ i → i < most_indices → v ≢ fresh kind outer i in
        either p IsApart (λ also kind i low below. All-contains IsOuter key (value_beside p props key) is_outer (part_among p part) kind i below) (λ no_part. absurd (no_part part)));
    partners = defaults.partners;
    dependent = λ p among by. either p (λ v. v ≢ Null → IsShort v) (λ part there. stated.short p part by) (λ no_part there. defaults.dependent p among by there);
  }

  -- the entity's key is the stated one
  pub keyed_key : key_of basis.schema.model entity ≡ key
  keyed_key =
      map_agree (value_of basis.schema.model entity) (λ p. value_beside p props key) props (λ p part.
      has_value basis region values p (key_among basis.schema.model of.is.sound.model p region.ty part)
      ∙ cond-true (is_among p props) (value_beside p props key) (default_value basis outer region p) ((Decides-among props p).1 part))
      ∙ key_beside props key (keys_apart basis.schema.model of.is.sound.model region.ty) (AllZip-long (FitsProp basis.schema.model) props key stated.fits)

  -- a dependent property that is no part of the key is null, or has a value of the row of numbers
  module _ (d : PropId) (dependent : IsDependent basis.schema.model d) (among : Contains (props_of basis.schema.model region.ty) d) (no_key : ¬ Contains props d)
      (declared : Prop) (here : At basis.schema.model.props d.index declared) where
    abbrev IsNullOrFree : Value → Type 0
    IsNullOrFree v = v ≢ Null → IsFree key v

    some_free : IsNullOrFree (some_value basis outer region.ty d declared)
    some_free there =
        let index : ℕ = dependent_value (place_in d (props_of basis.schema.model region.ty)) in
        subst (IsFree key)
        (sym (cond-true (is_dependent basis.schema.model d) (fresh declared.kind outer index) (first_free declared.kind (basis.constants (prop d))) ((Decides-dependent basis.schema.model d).1 dependent)))
        (fresh_free basis.schema.model outer (numbers basis outer s region of) key is_outer declared.kind index
        (dependent_index basis.schema.model of.is.sound.model of.limits.model region.ty d among))

    told_free : (found : Option Atom) → atom_at region.atoms d ≡ found → IsNullOrFree (value_by basis outer region.ty d declared found)
    told_free None at = cond_both declared.nullable Null (some_value basis outer region.ty d declared) IsNullOrFree (λ told there. absurd (there refl)) (λ told. some_free)
    told_free (Some atom.Null) at = λ there. absurd (there refl)
    told_free (Some (atom.Is only)) at =
        let told : IsTold basis of.is s region of.listed d (atom.Is only) = found_told basis of.is s region of.listed d (atom.Is only) at in
        let tells = atom_tells basis.fits of.is.domains (basis.constants (prop d)) told.declared (atom.Is only) told.among in
        let kind = dependent_is basis.schema.model of.is.sound.model d dependent told.declared told.is_declared in
        absurd (contains_nil only (subst (λ list. Contains list only) (dependent_none basis of.is d told.declared told.is_declared dependent) (tells.1 (plain_key told.declared.kind kind))))
    told_free (Some atom.Other) at = some_free

    default_free : IsNullOrFree (default_value basis outer region d)
    default_free = subst IsNullOrFree (sym (ap (λ found. option_map_or (declared_value basis outer region d) found Null) here))
        (cond_both (is_among d props) (fresh declared.kind outer (focus_key (place_in d props))) (value_by basis outer region.ty d declared (atom_at region.atoms d)) IsNullOrFree
        (λ told. absurd (no_key ((Decides-among props d).0 told)))
        (λ told. told_free (atom_at region.atoms d) refl))

  pub keyed_free : HasFreeValues basis outer region values
  keyed_free = record {
    outer_key = subst (IsOuterKey outer) (sym keyed_key) is_outer;
    own = λ d dependent among no_key. (
        let above = declared_above basis.schema.model of.is.sound.model d region.ty among in
        subst (λ k. values.prop d ≢ Null → IsFree k (values.prop d)) (sym keyed_key)
        (either d (λ v. v ≢ Null → IsFree key v) (λ part. absurd (no_key part)) (λ no_part. default_free d dependent among no_key above.0 above.1)));
  }

  -- the hosted associations with few partners are made
  pub keyed_made : IsMade basis outer s region values (few_hosts basis region) (wanted_by basis outer (given_by basis outer (few_hosts basis region) region values))
  keyed_made = record {
    of = of;
    admissible = keyed_admissible;
    each = few_each;
    order = few_order basis of.is s region of.listed;
    short = wanted_short basis outer s region of values keyed_admissible (few_hosts basis region) few_each (few_order basis of.is s region of.listed);
    holds = λ to has. has;
  }
    where
      few_each : (host : Host) → Contains (few_hosts basis region) host → Contains (basis.hosts s) host × Contains region.linked host.assoc
      few_each host there = linked_is basis of.is s region of.listed host (few_is basis of.is s region of.listed host there).0
