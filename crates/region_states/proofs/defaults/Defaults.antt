-- The values of a region where nothing else is said are admissible.
use Rattle.std.proofs.Common.{◌≡◌, ◌≢◌, ◌⊎◌, inl, inr, ℕ, ◌<◌, ◌≤◌, List, Contains, Option, Some, None, Bool, true, false, not, if◌then◌else◌, refl, sym, ap, subst, ◌∙◌, arith}
use Rattle.std.specs.Option.{option_map_or}
use Rattle.std.proofs.lemmas.Bool.{cond-true, cond_both}
use Rattle.std.proofs.lemmas.Bool.Decides.{not_from_Decides}
use Rattle.std.proofs.lemmas.Option.{same_Some}
use Rattle.emc_base.proofs.Lists.{all_from_members, at_once}
use Rattle.round_trip.specs.Words.{SetId, PropId, Value, Null, Prop, Assoc, At, InDomain, key_props, props_of}
use Rattle.round_trip.specs.soundness.models.Inheritance.{IsKeyProp}
use Rattle.round_trip.specs.soundness.mappings.Joined.{IsDependent, prop}
use Rattle.condition_logic.specs.declared.atoms.Atom.{Atom}
use Rattle.condition_logic.specs.declared.atoms.Atom.TheVariants as atom
use Rattle.condition_logic.specs.declared.atoms.AtomOf.{AtomOf}
use Rattle.schema_laws.proofs.state_demand.lists.Lists.{none_in_nil}
use Rattle.cells.specs.Limits.{IsWithinLimits}
use Rattle.regions.specs.declared.region.Region.{Region}
use Rattle.regions.specs.Atoms.{Allows, LiesIn, atom_at, atoms_of}
use Rattle.regions.specs.Basis.{Basis, Host, partner_end}
use Rattle.regions.specs.Patterns.{Valuation}
use Rattle.regions.specs.Regions.{regions_of}
use Rattle.regions.specs.region_laws.IsBasis.{IsBasis}
use Rattle.regions.proofs.region_laws.values.Atoms.{not_null}
use Rattle.schema_laws.proofs.sound_types.Inherited.{declared_above, key_prop}
use Rattle.regions.specs.region_laws.pattern.Allowed.{HasAllowedParts, end_at}
use Rattle.schema_laws.specs.short_values.Short.{IsShort}
use Rattle.region_states.specs.defaults.Candidates.{AreTwoFree, first_free, next_free}
use Rattle.schema_laws.specs.short_values.Fresh.{dependent_value, focus_key, fresh, most_indices, partner_key, fresh_at}
use Rattle.region_states.specs.defaults.Defaults.{declared_value, default_part, default_valuation, default_value, some_value, value_by}
use Rattle.schema_laws.specs.short_values.Places.{is_among, is_dependent, place_in}
use Rattle.region_states.specs.defaults.Admissible.{HasNumberedKey, IsAdmissible, IsApart}
use Rattle.region_states.proofs.defaults.indices.Bounds.{dependent_index, key_index, partner_index}
use Rattle.schema_laws.proofs.sound_demand.Keys.{keys_few}
use Rattle.region_states.proofs.defaults.Candidates.{IsPlainKind, plain_key}
use Rattle.schema_laws.proofs.sound_types.Dependent.{dependent_is, sound_kind}
use Rattle.region_states.proofs.defaults.groups.Constants.{dependent_none, plain_two, untested_two}
use Rattle.region_states.proofs.defaults.Listed.{IsTold, found_told, lost_untested, no_key_free, tested_no_key, told_found, told_is}
use Rattle.schema_laws.proofs.short_values.Fitting.{key_kind}
use Rattle.schema_laws.proofs.short_values.Places.{Decides-among, Decides-dependent, fresh_is, place_within}
use Rattle.schema_laws.proofs.short_values.Short.{fresh_apart, fresh_fits, fresh_short}
use Rattle.region_states.proofs.defaults.Valued.{Tells, atom_tells}

module _ (basis : Basis) (is : IsBasis basis) where
  -- a value that isn't null and no constant, and short where it is to be
  pub record IsSome (p : PropId) (declared : Prop) (v : Value) : Type 0 where
    pub fits : InDomain v declared.kind
    pub free : ¬ Contains (basis.constants (prop p)) v
    pub short : IsDependent basis.schema.model p → IsShort v

  -- where no atom but the last is told
  abbrev pub IsOpen : Region → PropId → Type 0
  IsOpen region p = (a : Atom) → atom_at region.atoms p ≡ Some a → a ≡ atom.Other

  pub is_open : (region : Region) (p : PropId) → (atom_at region.atoms p ≡ None) ⊎ (atom_at region.atoms p ≡ Some atom.Other) → IsOpen region p
  is_open region p (inl none) a at = let never : None ≡ Some a = sym none ∙ at in cc
  is_open region p (inr last) a at = sym (same_Some atom.Other a (sym last ∙ at))

  pub lies_open : (region : Region) (p : PropId) (declared : Prop) → IsOpen region p → (v : Value) → IsSome p declared v → (a : Atom) → atom_at region.atoms p ≡ Some a
      → LiesIn (basis.constants (prop p)) a v
  lies_open region p declared open_ v some a at =
      let P : Atom → Type 0 = λ one. LiesIn (basis.constants (prop p)) one v in
      let other_ : P atom.Other = (not_null declared.kind v some.fits, some.free) in
      subst P (sym (open_ a at)) other_

  module _ (p : PropId) (declared : Prop) (here : At basis.schema.model.props p.index declared) where
    pub fresh_some : IsDependent basis.schema.model p → (outer index : ℕ) → outer ≤ 4 → index < most_indices → IsSome p declared (fresh declared.kind outer index)
    fresh_some dependent outer index few below = record {
      fits = fresh_fits declared.kind (dependent_is basis.schema.model is.sound.model p dependent declared here) (sound_kind basis.schema.model is.sound.model p declared here)
          outer index few below;
      free = λ has. none_in_nil (fresh declared.kind outer index)
          (subst (λ list. Contains list (fresh declared.kind outer index)) (dependent_none basis is p declared here dependent) has);
      short = λ by. fresh_short declared.kind outer index few below;
    }

    -- of a dependent property a numbered one, else one that is free
    pub either_some : (outer index : ℕ) → outer ≤ 4 → index < most_indices → (v : Value) → InDomain v declared.kind → ¬ Contains (basis.constants (prop p)) v
        → IsSome p declared (if is_dependent basis.schema.model p then fresh declared.kind outer index else v)
    either_some outer index few below v fits free = cond_both (is_dependent basis.schema.model p) (fresh declared.kind outer index) v (IsSome p declared)
        (λ told. fresh_some ((Decides-dependent basis.schema.model p).0 told) outer index few below)
        (λ told. record {
          fits = fits;
          free = free;
          short = λ dependent. absurd (not_from_Decides (is_dependent basis.schema.model p) (Decides-dependent basis.schema.model p) told dependent);
        })

-- the parts of the key are the first of the row of numbers
pub default_key : (basis : Basis) → IsBasis basis → (region : Region) (outer : ℕ) → HasNumberedKey basis outer region (default_valuation basis outer region)
default_key basis is region outer p key =
    let is_key : IsKeyProp basis.schema.model p = key_prop basis.schema.model is.sound.model p region.ty key in
    let props : List PropId = key_props basis.schema.model region.ty in
    ap (λ found. option_map_or (declared_value basis outer region p) found Null) is_key.is_declared
    ∙ cond-true (is_among p props) (fresh is_key.declared.kind outer (focus_key (place_in p props))) (value_by basis outer region.ty p is_key.declared (atom_at region.atoms p))
    ((Decides-among props p).1 key)
    ∙ sym (fresh_is basis.schema.model p is_key.declared is_key.is_declared outer (focus_key (place_in p props)))

-- numbered ones are apart from those that come after the first four
pub numbered_apart : (basis : Basis) → IsBasis basis → (region : Region) (outer : ℕ) → outer ≤ 4 → (values : Valuation) → HasNumberedKey basis outer region values
    → (p : PropId) → Contains (key_props basis.schema.model region.ty) p → IsApart outer (values.prop p)
numbered_apart basis is region outer few values numbered p key k i low below same =
    let is_key : IsKeyProp basis.schema.model p = key_prop basis.schema.model is.sound.model p region.ty key in
    let props : List PropId = key_props basis.schema.model region.ty in
    let index : ℕ = focus_key (place_in p props) in
    let value : fresh is_key.declared.kind outer index ≡ fresh k outer i =
    sym (numbered p key ∙ fresh_is basis.schema.model p is_key.declared is_key.is_declared outer index) ∙ same in
    let place = place_within p props key in
    let four = keys_few basis.schema.model is.sound.model region.ty in
    let one = (fresh_apart is_key.declared.kind k outer outer index i few few value).1 in
    absurd (omega (arith, place, four, one, low))

module _ (basis : Basis) (is : IsBasis basis) (limits : IsWithinLimits basis.schema) (s : SetId) (region : Region) (has : Contains (regions_of basis s) region) where
  -- an entity of the region may have the value
  pub record IsGood (p : PropId) (declared : Prop) (v : Value) : Type 0 where
    pub allowed : Allows declared v
    pub atom : (a : Atom) → atom_at region.atoms p ≡ Some a → LiesIn (basis.constants (prop p)) a v
    pub dependent : IsDependent basis.schema.model p → v ≢ Null → IsShort v

  module _ (p : PropId) (declared : Prop) (here : At basis.schema.model.props p.index declared) (among : Contains (props_of basis.schema.model region.ty) p) where
    abbrev constants : List Value
    constants = basis.constants (prop p)

    -- what a told atom tells
    pub told_tells : (a : Atom) → atom_at region.atoms p ≡ Some a → Tells declared constants a
    told_tells a at =
        let told : IsTold basis is s region has p a = found_told basis is s region has p a at in
        let same : told.declared ≡ declared = at_once basis.schema.model.props p.index told.declared declared told.is_declared here in
        let P : Prop → Type 0 = λ one. Contains (atoms_of basis.fits one constants) a in
        atom_tells basis.fits is.domains constants declared a (subst P same told.among)

    some_good : IsOpen basis is region p → (v : Value) → IsSome basis is p declared v → IsGood p declared v
    some_good open_ v some = record { allowed = inr some.fits; atom = lies_open basis is region p declared open_ v some; dependent = λ by there. some.short by }

    pub open_two : ¬ Contains (key_props basis.schema.model region.ty) p → (atom_at region.atoms p ≡ None) ⊎ (atom_at region.atoms p ≡ Some atom.Other)
        → AreTwoFree declared.kind constants (first_free declared.kind constants) (next_free declared.kind constants)
    open_two no_key (inl none) =
        untested_two basis is p declared here (no_key_free basis is p declared here region.ty among no_key) (lost_untested basis is s region has p among none)
    open_two no_key (inr last) = plain_two basis is p declared here limits (told_tells atom.Other last)

    module _ (outer : ℕ) (few : outer ≤ 4) where
      the_some : AreTwoFree declared.kind constants (first_free declared.kind constants) (next_free declared.kind constants)
          → IsSome basis is p declared (some_value basis outer region.ty p declared)
      the_some two = either_some basis is p declared here outer (dependent_value (place_in p (props_of basis.schema.model region.ty))) few
          (dependent_index basis.schema.model is.sound.model limits.model region.ty p among) (first_free declared.kind constants) two.one_fits two.one_free

      -- a value of a property that is no part of the key
      value_good : ¬ Contains (key_props basis.schema.model region.ty) p → IsGood p declared (value_by basis outer region.ty p declared (atom_at region.atoms p))
      value_good no_key = by (atom_at region.atoms p) refl
        where
          one_atom : (one : Atom) → atom_at region.atoms p ≡ Some one → (v : Value) → LiesIn constants one v → (a : Atom) → atom_at region.atoms p ≡ Some a → LiesIn constants a v
          one_atom one at v lies a is_a = let P : Atom → Type 0 = λ b. LiesIn constants b v in subst P (same_Some one a (sym at ∙ is_a)) lies

          none_short : (one : Value) → InDomain one declared.kind × (IsPlainKind declared.kind → Contains constants one) → IsDependent basis.schema.model p → IsShort one
          none_short one told dependent =
              let key = dependent_is basis.schema.model is.sound.model p dependent declared here in
              absurd (none_in_nil one (subst (λ list. Contains list one) (dependent_none basis is p declared here dependent) (told.1 (plain_key declared.kind key))))

          maybe_null : (nullable : Bool) → declared.nullable ≡ nullable → atom_at region.atoms p ≡ None
              → IsGood p declared (if nullable then Null else some_value basis outer region.ty p declared)
          maybe_null true nullable at = record {
            allowed = inl (refl, nullable);
            atom = λ a is_a. absurd (let never : None ≡ Some a = sym at ∙ is_a in cc);
            dependent = λ by there. absurd (there refl);
          }
          maybe_null false nullable at =
              some_good (is_open basis is region p (inl at)) (some_value basis outer region.ty p declared) (the_some (open_two no_key (inl at)))

          by : (found : Option Atom) → atom_at region.atoms p ≡ found → IsGood p declared (value_by basis outer region.ty p declared found)
          by None at = maybe_null declared.nullable refl at
          by (Some atom.Null) at = record {
            allowed = inl (refl, told_tells atom.Null at);
            atom = one_atom atom.Null at Null refl;
            dependent = λ by there. absurd (there refl);
          }
          by (Some (atom.Is one)) at =
              let told = told_tells (atom.Is one) at in
              record { allowed = inr told.0; atom = one_atom (atom.Is one) at one refl; dependent = λ dependent there. none_short one told dependent }
          by (Some atom.Other) at = some_good (is_open basis is region p (inr at)) (some_value basis outer region.ty p declared) (the_some (open_two no_key (inr at)))

      -- a part of the key
      key_good : Contains (key_props basis.schema.model region.ty) p
          → IsGood p declared (fresh declared.kind outer (focus_key (place_in p (key_props basis.schema.model region.ty))))
      key_good key =
          let index : ℕ = focus_key (place_in p (key_props basis.schema.model region.ty)) in
          let below : index < most_indices = key_index basis.schema.model is.sound.model region.ty p key in
          record {
            allowed = inr (fresh_fits declared.kind (key_kind basis.schema.model is.sound.model region.ty p key declared here)
                (sound_kind basis.schema.model is.sound.model p declared here) outer index few below);
            atom = λ a at. (let told : IsTold basis is s region has p a = found_told basis is s region has p a at in
                absurd (tested_no_key basis is p declared here region.ty among told.tested key));
            dependent = λ by there. fresh_short declared.kind outer index few below;
          }

      default_is : default_value basis outer region p ≡ declared_value basis outer region p declared
      default_is = ap (λ found. option_map_or (declared_value basis outer region p) found Null) here

      pub default_good : IsGood p declared (default_value basis outer region p)
      default_good =
          let key : List PropId = key_props basis.schema.model region.ty in
          subst (IsGood p declared) (sym default_is)
          (cond_both (is_among p key) (fresh declared.kind outer (focus_key (place_in p key))) (value_by basis outer region.ty p declared (atom_at region.atoms p)) (IsGood p declared)
          (λ told. key_good ((Decides-among key p).0 told))
          (λ told. value_good (not_from_Decides (is_among p key) (Decides-among key p) told)))

  module _ (outer : ℕ) (few : outer ≤ 4) where
    module _ (host : Host) (assoc : Assoc) (here : At basis.schema.model.assocs host.assoc.index assoc) where
      end_is : (first_hosts : Bool) → end_at (not first_hosts) assoc ≡ partner_end first_hosts assoc
      end_is true = refl
      end_is false = refl

      -- a partner's key
      default_partner : (p : PropId) → default_part basis outer host.assoc (not host.first_hosts) p
          ≡ fresh_at basis.schema.model outer p (partner_key host.assoc.index (place_in p (key_props basis.schema.model (partner_end host.first_hosts assoc).ty)))
      default_partner p =
          ap (λ found. option_map_or (λ (one : Assoc).
          fresh_at basis.schema.model outer p (partner_key host.assoc.index (place_in p (key_props basis.schema.model (end_at (not host.first_hosts) one).ty)))) found Null) here
          ∙ ap (λ end. fresh_at basis.schema.model outer p (partner_key host.assoc.index (place_in p (key_props basis.schema.model end.ty)))) (end_is host.first_hosts)

      default_parts : HasAllowedParts basis.schema.model (partner_end host.first_hosts assoc) (default_part basis outer host.assoc (not host.first_hosts))
      default_parts p declared key is_declared =
          let t = (partner_end host.first_hosts assoc).ty in
          let index : ℕ = partner_key host.assoc.index (place_in p (key_props basis.schema.model t)) in
          let P : Value → Type 0 = λ v. InDomain v declared.kind in
          subst P (sym (default_partner p ∙ fresh_is basis.schema.model p declared is_declared outer index))
          (fresh_fits declared.kind (key_kind basis.schema.model is.sound.model t p key declared is_declared)
          (sound_kind basis.schema.model is.sound.model p declared is_declared) outer index few
          (partner_index basis.schema.model is.sound.model limits.model host.assoc assoc here t p key))

    -- all of it
    pub default_admissible : IsAdmissible basis outer region (default_valuation basis outer region)
    default_admissible = record {
      allowed = record {
        atoms = all_from_members (λ (told : AtomOf). LiesIn (basis.constants (prop told.prop)) told.atom (default_value basis outer region told.prop)) region.atoms
            (λ told there. (let is_told : IsTold basis is s region has told.prop told.atom = told_is basis is s region has told there in
            (default_good told.prop is_told.declared is_told.is_declared is_told.of_type outer few).atom told.atom (told_found basis is s region has told there)));
        props = λ p declared among here. (default_good p declared here among outer few).allowed;
        parts = λ host assoc is_host linked here. default_parts host assoc here;
      };
      keys = numbered_apart basis is region outer few (default_valuation basis outer region) (default_key basis is region outer);
      partners = λ host assoc is_host linked here p key. default_partner host assoc here p;
      dependent = λ p among by there.
          (let above = declared_above basis.schema.model is.sound.model p region.ty among in (default_good p above.0 above.1 among outer few).dependent by there);
    }
