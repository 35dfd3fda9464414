-- The values of an entity of a region of which no given property is null: admissible, and numbered where they stand for parts of keys.
use Rattle.std.proofs.Common.{◌≡◌, ◌≢◌, ◌⊎◌, ⊎_elim, inl, inr, ℕ, List, unwrap_or, slice_get, Contains, Option, Some, None, Bool, true, false, true≢false, not, if◌then◌else◌, refl, sym, ap, subst, ◌∙◌}
use Rattle.std.specs.Option.{option_map_or}
use Rattle.std.proofs.lemmas.Bool.{cond-true, cond_both}
use Rattle.std.proofs.lemmas.Option.{same_Some}
use Rattle.emc_base.proofs.Lists.{at_once}
use Rattle.emc_base.proofs.Members.{contains_nil}
use Rattle.round_trip.specs.Words.{SetId, AssocId, PropId, Value, Null, Kind, Prop, End, At, key_props, props_of}
use Rattle.round_trip.specs.soundness.models.Inheritance.{IsKeyProp}
use Rattle.round_trip.specs.soundness.mappings.Joined.{IsDependent, prop}
use Rattle.condition_logic.specs.declared.atoms.Atom.{Atom}
use Rattle.condition_logic.specs.declared.atoms.Atom.TheVariants as atom
use Rattle.schema_laws.specs.short_values.Fresh.{dependent_value, focus_key, fresh, fresh_at, partner_key}
use Rattle.schema_laws.specs.short_values.Places.{is_among, is_dependent, place_in}
use Rattle.schema_laws.proofs.short_values.Places.{Decides-among, Decides-dependent, fresh_is}
use Rattle.schema_laws.proofs.short_values.Short.{domain_not_null}
use Rattle.schema_laws.proofs.sound_types.Dependent.{dependent_is}
use Rattle.schema_laws.proofs.sound_types.Inherited.{declared_above, key_prop}
use Rattle.schema_laws.proofs.state_demand.writings.Decisions.{so_or_not}
use Rattle.regions.specs.Atoms.{atom_at}
use Rattle.regions.specs.Basis.{Basis, partner_end}
use Rattle.regions.specs.Patterns.{Valuation, value_under}
use Rattle.regions.specs.Settled.{Possible, multi, of_atom, possible, single}
use Rattle.regions.specs.declared.pattern.Focus.TheVariants as focus
use Rattle.regions.specs.declared.pattern.Symbol.{Symbol}
use Rattle.regions.specs.declared.pattern.Symbol.TheVariants as symbol
use Rattle.regions.specs.declared.region.Region.{Region}
use Rattle.regions.specs.region_laws.pattern.Allowed.{end_at}
use Rattle.regions.proofs.region_laws.pattern.Ends.{other_end}
use Rattle.regions.proofs.region_laws.pattern.values.Possible.{null_of_nullable, nullable_is}
use Rattle.region_states.specs.defaults.Admissible.{AreChoices, HasNumberedKey, IsAdmissible, IsChoice, SeveralOf}
use Rattle.region_states.specs.defaults.Candidates.{first_free}
use Rattle.region_states.specs.defaults.Defaults.{declared_value, default_valuation, default_value, some_value, value_by}
use Rattle.region_states.proofs.defaults.Candidates.{plain_key}
use Rattle.region_states.proofs.defaults.Changes.{changed_admissible, changed_key, free_choice}
use Rattle.region_states.proofs.defaults.Defaults.{IsSome, default_admissible, default_key, either_some, open_two, told_tells}
use Rattle.region_states.proofs.defaults.groups.Constants.{dependent_none}
use Rattle.region_states.proofs.defaults.indices.Bounds.{dependent_index}
use Rattle.conflict_laws.proofs.rival.Atoms.{open_atom}
use Rattle.host_states.proofs.focus.Focus.{HasRegion}
use Rattle.dangling_keys.specs.Flow.{IsFlow, IsOwnDependent, IsPartnerPart}
use Rattle.dangling_keys.specs.FlowStates.{AreOpen, flow_values, some_for}

module _ (basis : Basis) (outer : ℕ) (s : SetId) (region : Region) (of : HasRegion basis outer s region) (not_null : List PropId) (open_ : AreOpen basis region not_null) where
  abbrev keys : List PropId
  keys = key_props basis.schema.model region.ty

  abbrev pub values : Valuation
  values = flow_values basis outer region not_null

  abbrev usual : Valuation
  usual = default_valuation basis outer region

  -- a property that may be null is no part of the key
  no_part : (p : PropId) → possible basis.schema.model region.atoms (symbol.Prop p) ≡ multi true → ¬ Contains keys p
  no_part p several part =
      let is_key : IsKeyProp basis.schema.model p = key_prop basis.schema.model of.is.sound.model p region.ty part in
      let found = null_of_nullable basis.schema.model region.atoms (symbol.Prop p) several in
      let same_prop : p ≡ found.0 = prop_is p found.0 found.2 in
      let same : is_key.declared ≡ found.1 = at_once basis.schema.model.props found.0.index is_key.declared found.1
      (subst (λ (q : PropId). At basis.schema.model.props q.index is_key.declared) same_prop is_key.is_declared) found.3 in
      let told : found.1.nullable ≡ true = found.4 in
      let never : false ≡ true = sym is_key.needed ∙ ap (λ (d : Prop). d.nullable) same ∙ told in
      true≢false (sym never)
    where
      prop_is : (q r : PropId) → symbol.Prop q ≡ symbol.Prop r → q ≡ r
      prop_is q r same = cc

  module _ (p : PropId) (declared : Prop) (here : At basis.schema.model.props p.index declared) where
    abbrev some : Value
    some = some_value basis outer region.ty p declared

    -- the value that is chosen of a given property, and that which others keep
    chosen : Contains not_null p → some_for basis outer region not_null p ≡ Some some
    chosen has =
        cond-true (is_among p not_null) (option_map_or (λ (one : Prop). Some (some_value basis outer region.ty p one)) (slice_get basis.schema.model.props p.index) None) None
        ((Decides-among not_null p).1 has)
        ∙ ap (λ (found : Option Prop). option_map_or (λ (one : Prop). Some (some_value basis outer region.ty p one)) found None) here

    chosen_value : Contains not_null p → values.prop p ≡ some
    chosen_value has = ap (λ (found : Option Value). unwrap_or found (usual.prop p)) (chosen has)

    pub kept_value : ¬ Contains not_null p → values.prop p ≡ default_value basis outer region p
    kept_value unlisted =
        let P : Option Value → Type 0 = λ found. unwrap_or found (usual.prop p) ≡ default_value basis outer region p in
        cond_both (is_among p not_null) (option_map_or (λ (one : Prop). Some (some_value basis outer region.ty p one)) (slice_get basis.schema.model.props p.index) None) None P
        (λ told. absurd (unlisted ((Decides-among not_null p).0 told)))
        (λ told. refl)

    -- of a property that is no part of the key it goes by the atom that is told
    pub usual_value : ¬ Contains keys p → default_value basis outer region p ≡ value_by basis outer region.ty p declared (atom_at region.atoms p)
    usual_value unlisted =
        let by_atom : Value = value_by basis outer region.ty p declared (atom_at region.atoms p) in
        ap (λ (found : Option Prop). option_map_or (declared_value basis outer region p) found Null) here
        ∙ cond_both (is_among p keys) (fresh declared.kind outer (focus_key (place_in p keys))) by_atom (λ v. v ≡ by_atom)
        (λ told. absurd (unlisted ((Decides-among keys p).0 told)))
        (λ told. refl)

    -- where several values are possible, and null isn't or it is given that it isn't null, it is this one
    pub several_value : ¬ Contains keys p → (nullable : Bool) → possible basis.schema.model region.atoms (symbol.Prop p) ≡ multi nullable → (nullable ≡ true → Contains not_null p) → values.prop p ≡ some
    several_value unlisted nullable several given = ⊎_elim
        (λ (has : Contains not_null p). chosen_value has)
        (λ (not_given : ¬ Contains not_null p). kept_value not_given ∙ usual_value unlisted ∙ by not_given (atom_at region.atoms p) refl
        (subst (λ (b : Bool). option_map_or of_atom (atom_at region.atoms p) (multi b) ≡ multi nullable) (nullable_is basis.schema.model p declared here) several))
        (so_or_not (is_among p not_null) (Decides-among not_null p))
      where
        may_be : Possible → Bool
        may_be (single value) = false
        may_be (multi b) = b

        by : ¬ Contains not_null p → (found : Option Atom) → atom_at region.atoms p ≡ found → option_map_or of_atom found (multi declared.nullable) ≡ multi nullable
            → value_by basis outer region.ty p declared found ≡ some
        by not_given None at same = cond_both declared.nullable Null some (λ v. v ≡ some)
            (λ told. absurd (not_given (given (sym (ap may_be same) ∙ told))))
            (λ told. refl)
        by not_given (Some atom.Null) at same = absurd (let never : single Null ≡ multi nullable = same in cc)
        by not_given (Some (atom.Is one)) at same = absurd (let never : single one ≡ multi nullable = same in cc)
        by not_given (Some atom.Other) at same = refl

    -- and so it is of a dependent property that isn't null
    some_dependent : ¬ Contains keys p → Contains (props_of basis.schema.model region.ty) p → IsDependent basis.schema.model p → values.prop p ≢ Null → values.prop p ≡ some
    some_dependent unlisted among dependent some_there = ⊎_elim
        (λ (has : Contains not_null p). chosen_value has)
        (λ (not_given : ¬ Contains not_null p).
        let is : values.prop p ≡ value_by basis outer region.ty p declared (atom_at region.atoms p) = kept_value not_given ∙ usual_value unlisted in
        is ∙ by (atom_at region.atoms p) refl (λ null. some_there (is ∙ null)))
        (so_or_not (is_among p not_null) (Decides-among not_null p))
      where
        by : (found : Option Atom) → atom_at region.atoms p ≡ found → value_by basis outer region.ty p declared found ≢ Null → value_by basis outer region.ty p declared found ≡ some
        by None at there = by_null declared.nullable there
          where
            by_null : (b : Bool) → (if b then Null else some) ≢ Null → (if b then Null else some) ≡ some
            by_null true is_some = absurd (is_some refl)
            by_null false is_some = refl
        by (Some atom.Null) at there = absurd (there refl)
        by (Some (atom.Is one)) at there =
            let told = told_tells basis of.is of.limits s region of.listed p declared here among (atom.Is one) at in
            absurd (contains_nil one (subst (λ (list : List Value). Contains list one) (dependent_none basis of.is p declared here dependent)
            (told.1 (plain_key declared.kind (dependent_is basis.schema.model of.is.sound.model p dependent declared here)))))
        by (Some atom.Other) at there = refl

    -- a dependent one is numbered by its place, another one is the first that is no constant
    pub numbered_some : IsDependent basis.schema.model p → some ≡ fresh declared.kind outer (dependent_value (place_in p (props_of basis.schema.model region.ty)))
    numbered_some dependent = cond-true (is_dependent basis.schema.model p) (fresh declared.kind outer (dependent_value (place_in p (props_of basis.schema.model region.ty))))
        (first_free declared.kind (basis.constants (prop p))) ((Decides-dependent basis.schema.model p).1 dependent)

    pub free_some : ¬ IsDependent basis.schema.model p → some ≡ first_free declared.kind (basis.constants (prop p))
    free_some not_dependent =
        let first : Value = first_free declared.kind (basis.constants (prop p)) in
        cond_both (is_dependent basis.schema.model p) (fresh declared.kind outer (dependent_value (place_in p (props_of basis.schema.model region.ty)))) first (λ v. v ≡ first)
        (λ told. absurd (not_dependent ((Decides-dependent basis.schema.model p).0 told)))
        (λ told. refl)

    -- it isn't null and no constant, and may be chosen
    open_some : Contains (props_of basis.schema.model region.ty) p → ¬ Contains keys p → (atom_at region.atoms p ≡ None) ⊎ (atom_at region.atoms p ≡ Some atom.Other) → IsSome basis of.is p declared some
    open_some among unlisted open_atoms =
        let two = open_two basis of.is of.limits s region of.listed p declared here among unlisted open_atoms in
        either_some basis of.is p declared here outer (dependent_value (place_in p (props_of basis.schema.model region.ty))) of.row
        (dependent_index basis.schema.model of.is.sound.model of.limits.model region.ty p among) (first_free declared.kind (basis.constants (prop p))) two.one_fits two.one_free

    pub some_not_null : Contains (props_of basis.schema.model region.ty) p → ¬ Contains keys p → (nullable : Bool) → possible basis.schema.model region.atoms (symbol.Prop p) ≡ multi nullable → some ≢ Null
    some_not_null among unlisted nullable several = domain_not_null some declared.kind (open_some among unlisted (open_atom basis.schema.model region.atoms p nullable several)).fits

    -- none of the given properties is null
    pub given_there : Contains not_null p → values.prop p ≢ Null
    given_there has = let told = open_ p has in subst (λ (v : Value). v ≢ Null) (sym (chosen_value has)) (some_not_null told.0 (no_part p told.1) true told.1)

    given_choice : Contains not_null p → IsChoice basis region p some
    given_choice has =
        let told = open_ p has in
        let unlisted = no_part p told.1 in
        let some_is = open_some told.0 unlisted (open_atom basis.schema.model region.atoms p true told.1) in
        let several : SeveralOf basis = record {
          s = s;
          region = region;
          listed = of.listed;
          p = p;
          declared = declared;
          nullable = true;
          several = record { is_declared = here; among = told.0; no_key = unlisted; several = told.1 };
        } in
        free_choice basis of.is several some some_is.fits some_is.free some_is.short

  choices : AreChoices basis region (some_for basis outer region not_null)
  choices p v told = ⊎_elim
      (λ (has : Contains not_null p).
      let declared = declared_above basis.schema.model of.is.sound.model p region.ty (open_ p has).0 in
      subst (IsChoice basis region p) (same_Some (some_value basis outer region.ty p declared.0) v (sym (chosen p declared.0 declared.1 has) ∙ told)) (given_choice p declared.0 declared.1 has))
      (λ (unlisted : ¬ Contains not_null p). absurd (none unlisted told))
      (so_or_not (is_among p not_null) (Decides-among not_null p))
    where
      none : ¬ Contains not_null p → some_for basis outer region not_null p ≡ Some v → ⊥
      none unlisted is_some =
          let P : Option Value → Type 0 = λ found. found ≡ Some v → ⊥ in
          cond_both (is_among p not_null) (option_map_or (λ (one : Prop). Some (some_value basis outer region.ty p one)) (slice_get basis.schema.model.props p.index) None) None P
          (λ there never. unlisted ((Decides-among not_null p).0 there))
          (λ there never. let nothing : None ≡ Some v = never in cc) is_some

  pub flow_admissible : IsAdmissible basis outer region values
  flow_admissible = changed_admissible basis of.is outer (record { s = s; region = region; listed = of.listed; values = usual })
      (default_admissible basis of.is of.limits s region of.listed outer of.row) (some_for basis outer region not_null) choices

  -- the parts of the key are the first numbers
  pub flow_key : HasNumberedKey basis outer region values
  flow_key = changed_key basis outer region usual (default_key basis of.is region outer) (some_for basis outer region not_null) choices

  -- a part of the key has the value of its number
  pub key_value : (p : PropId) → Contains keys p → (k : Kind) × (values.prop p ≡ fresh k outer (focus_key (place_in p keys)))
  key_value p part =
      let is_key : IsKeyProp basis.schema.model p = key_prop basis.schema.model of.is.sound.model p region.ty part in
      (is_key.declared.kind, flow_key p part ∙ fresh_is basis.schema.model p is_key.declared is_key.is_declared outer (focus_key (place_in p keys)))

  -- and so has a part of a partner's key
  pub part_value : (a : AssocId) (first : Bool) (p : PropId) (part : IsPartnerPart basis region a first p)
      → (k : Kind) × (values.part a first p ≡ fresh k outer (partner_key a.index (place_in p (key_props basis.schema.model (end_at first part.assoc).ty))))
  part_value a first p part =
      let is_key : IsKeyProp basis.schema.model p = key_prop basis.schema.model of.is.sound.model p (end_at first part.assoc).ty part.part in
      let far : end_at first part.assoc ≡ partner_end part.host.first_hosts part.assoc = ap (λ (b : Bool). end_at b part.assoc) part.at_far ∙ other_end part.host.first_hosts part.assoc in
      let at : ℕ → Value = λ place. fresh_at basis.schema.model outer p (partner_key a.index place) in
      let linked : Contains region.linked part.host.assoc = subst (Contains region.linked) (sym part.of_assoc) part.linked in
      let here : At basis.schema.model.assocs part.host.assoc.index part.assoc = subst (λ (b : AssocId). At basis.schema.model.assocs b.index part.assoc) (sym part.of_assoc) part.is_assoc in
      let among : Contains (key_props basis.schema.model (partner_end part.host.first_hosts part.assoc).ty) p = subst (λ (end : End). Contains (key_props basis.schema.model end.ty) p) far part.part in
      let told = flow_admissible.partners part.host part.assoc part.hosts linked here p among in
      let value : values.part a first p ≡ at (place_in p (key_props basis.schema.model (partner_end part.host.first_hosts part.assoc).ty)) =
      ap (λ (b : Bool). values.part a b p) part.at_far ∙ ap (λ (b : AssocId). values.part b (not part.host.first_hosts) p) (sym part.of_assoc) ∙ told
      ∙ ap (λ (b : AssocId). fresh_at basis.schema.model outer p (partner_key b.index (place_in p (key_props basis.schema.model (partner_end part.host.first_hosts part.assoc).ty)))) part.of_assoc in (
        is_key.declared.kind,
        value ∙ ap (λ (end : End). at (place_in p (key_props basis.schema.model end.ty))) (sym far)
            ∙ fresh_is basis.schema.model p is_key.declared is_key.is_declared outer (partner_key a.index (place_in p (key_props basis.schema.model (end_at first part.assoc).ty))),
      )

  -- and a dependent property, where it isn't null
  pub dependent_is_fresh : (p : PropId) → IsOwnDependent basis region p → values.prop p ≢ Null → (k : Kind) × (values.prop p ≡ fresh k outer (dependent_value (place_in p (props_of basis.schema.model region.ty))))
  dependent_is_fresh p by there =
      let declared = declared_above basis.schema.model of.is.sound.model p region.ty by.among in
      (declared.0.kind, some_dependent p declared.0 declared.1 by.no_key by.among by.dependent there ∙ numbered_some p declared.0 declared.1 by.dependent)

  -- a symbol that stands for a part of a key has the value of its number
  pub flow_value : (one : Symbol) (i : ℕ) → IsFlow basis (focus.Entity region) one i → value_under values one ≢ Null → (k : Kind) × (value_under values one ≡ fresh k outer i)
  flow_value symbol.Null i by there = absurd by
  flow_value (symbol.Const value) i by there = absurd by
  flow_value (symbol.Prop p) i (inl by) there = let told = key_value p by.0 in (told.0, told.1 ∙ ap (fresh told.0 outer) (sym by.1))
  flow_value (symbol.Prop p) i (inr by) there = let told = dependent_is_fresh p by.0 there in (told.0, told.1 ∙ ap (fresh told.0 outer) (sym by.1))
  flow_value (symbol.End a first p) i by there = let told = part_value a first p by.0 in (told.0, told.1 ∙ ap (fresh told.0 outer) (sym by.1))
