-- A plain entity has its key, null where it may be, and values in the domains of its properties.
use Rattle.std.proofs.Common.{◌≡◌, ◌≢◌, ◌⊎◌, ⊎_elim, inl, inr, ℕ, pos, ◌<◌, ◌≤◌, ◌==◌, ◌&&◌, List, [], ◌∷◌, filter, length, slice_get, unwrap_or, Contains, Some, None, Bool, true, false, true≢false, not, IsTrue, if◌then◌else◌, refl, sym, ap, subst, ◌∙◌, arith}
use Rattle.std.specs.List.{AllZip, enumerate_from}
use Rattle.std.specs.Option.{option_map_or}
use Rattle.std.proofs.lemmas.Bool.{and_parts, cond-true, cond_both}
use Rattle.std.proofs.lemmas.Bool.Decides.{not_from_Decides}
use Rattle.std.proofs.lemmas.Int.{ints}
use Rattle.std.proofs.lemmas.List.{length-map}
use Rattle.std.proofs.lemmas.Slice.Zip.{AllZip-long}
use Rattle.emc_base.specs.declared.value.Kind.TheVariants as kind
use Rattle.emc_base.proofs.Lists.{at_once}
use Rattle.emc_base.proofs.Mapped.{contains_enumerated, contains_filter, contains_map}
use Rattle.emc_base.proofs.Members.{contains_cons_cases, contains_head, contains_nil}
use Rattle.emc_base.proofs.Numbered.{enumerated_at, filter_contains, map_contains}
use Rattle.round_trip.specs.Words.{SetId, TypeId, PropId, Value, Null, Kind, EntityModel, EntityType, EntitySet, Prop, At, InDomain, IsA, IsConcrete, key_of, key_props, props_of, value_beside, value_of}
use Rattle.edm_types.specs.IsA.{chain}
use Rattle.round_trip.specs.soundness.Kinds.{IsSoundKind}
use Rattle.round_trip.specs.soundness.Lookups.{HasConcrete, IsUnderElement, set_key}
use Rattle.round_trip.specs.soundness.models.Models.{IsSoundModel}
use Rattle.schema_laws.specs.sound_demand.Deriving.{derives}
use Rattle.schema_laws.specs.short_values.Fresh.{added_value, fresh, most_indices}
use Rattle.schema_laws.specs.short_values.Places.{is_among, is_dependent}
use Rattle.schema_laws.specs.short_values.Short.{IsOfSort}
use Rattle.schema_laws.proofs.sound_demand.Deriving.{decides_types}
use Rattle.schema_laws.proofs.sound_demand.Keys.{inherits_keys, keys_apart}
use Rattle.schema_laws.proofs.sound_demand.tuples.TupleKeys.{key_beside}
use Rattle.schema_laws.proofs.sound_types.Dependent.{dependent_is, sound_kind}
use Rattle.schema_laws.proofs.sound_types.Inherited.{key_among}
use Rattle.schema_laws.proofs.short_values.Fitting.{key_takes}
use Rattle.schema_laws.proofs.short_values.Places.{Decides-among, Decides-dependent}
use Rattle.schema_laws.proofs.short_values.Short.{domain_not_null, fresh_fits}
use Rattle.schema_laws.proofs.state_demand.lists.Ids.{Decides-prop}
use Rattle.schema_laws.proofs.state_demand.lists.Places.{map_agree}
use Rattle.schema_laws.proofs.state_demand.writings.Decisions.{so_or_not}
use Rattle.schema_laws.proofs.state_demand.owners.Owners.{beside_map}
use Rattle.population.specs.Plain.{concrete_types, first_concrete, first_value, needed_value, plain, plain_value}
use Rattle.population.specs.Given.{HasShortParts, IsShortFor, StandsWell}

-- the value where nothing is asked is in the domain
pub first_fits : (k : Kind) → IsSoundKind k → InDomain (first_value k) k
first_fits kind.Boolean sound = tt
first_fits kind.Byte sound = (omega (arith, ints), omega (arith, ints))
first_fits kind.Int16 sound = (omega (arith, ints), omega (arith, ints))
first_fits kind.Int32 sound = (omega (arith, ints), omega (arith, ints))
first_fits kind.Int64 sound = (omega (arith, ints), omega (arith, ints))
first_fits (kind.Text None) sound = record { characters = []; scalar = refl; spelled = refl; within = tt }
first_fits (kind.Text (Some most)) sound = record { characters = []; scalar = refl; spelled = refl; within = omega arith }
first_fits (kind.Binary None) sound = record { small = λ i d below. absurd (omega (arith, below)); within = tt }
first_fits (kind.Binary (Some most)) sound = record { small = λ i d below. absurd (omega (arith, below)); within = omega arith }
first_fits (kind.Enum enumeration) sound = by enumeration.members sound.some
  where
    by : (members : List _) → members ≢ [] → Contains members (unwrap_or (slice_get members 0) (pos 0))
    by [] some = absurd (some refl)
    by (one ∷ others) some = contains_head one others

module _ (model : EntityModel) (sound : IsSoundModel model) where
  abbrev number : ℕ × EntityType → TypeId
  number placed = record { index = placed.0 }

  abbrev test : TypeId → ℕ × EntityType → Bool
  test t placed = not placed.1.is_abstract && derives model (number placed) t

  not_abstract : (b : Bool) → not b ≡ true → b ≡ false
  not_abstract true is = absurd (true≢false (sym is))
  not_abstract false is = refl

  -- each that is listed is concrete, and at or below the type
  each_concrete : (t one : TypeId) → Contains (concrete_types model t) one → IsConcrete model one × IsA model one t
  each_concrete t one has =
      let found = map_contains number (filter (test t) (enumerate_from 0 model.types)) one has in
      let kept = filter_contains (test t) (enumerate_from 0 model.types) found.0 found.1 in
      let both = and_parts (not found.0.1.is_abstract) (derives model (number found.0) t) kept.1 in
      let here = enumerated_at model.types found.0 kept.0 in
      let P : TypeId → Type 0 = λ u. IsConcrete model u × IsA model u t in
      subst P found.2 ((found.0.1, here, not_abstract found.0.1.is_abstract both.0), ((decides_types model sound).tells (number found.0) t).0 both.1)

  -- the first concrete type is so, where there is one
  pub first_is : (t : TypeId) → HasConcrete model t → IsConcrete model (first_concrete model t) × IsA model (first_concrete model t) t
  first_is t (below, concrete, under) = by (concrete_types model t) refl
      (contains_map number (filter (test t) (enumerate_from 0 model.types)) (below.index, concrete.0)
      (contains_filter (test t) (enumerate_from 0 model.types) (below.index, concrete.0) (contains_enumerated model.types below.index concrete.0 concrete.1)
      (ap (λ b. not b && derives model below t) concrete.2 ∙ ((decides_types model sound).tells below t).1 under)))
    where
      by : (list : List TypeId) → concrete_types model t ≡ list → Contains (concrete_types model t) below
          → IsConcrete model (unwrap_or (slice_get (concrete_types model t) 0) t) × IsA model (unwrap_or (slice_get (concrete_types model t) 0) t) t
      by [] is has = absurd (contains_nil below (subst (λ list. Contains list below) is has))
      by (one ∷ others) is has =
          let P : TypeId → Type 0 = λ u. IsConcrete model u × IsA model u t in
          subst P (sym (ap (λ list. unwrap_or (slice_get list 0) t) is))
          (each_concrete t one (subst (λ list. Contains list one) (sym is) (contains_head one others)))

  -- its key is that of each set under whose element type it is
  pub keys_same : (u : SetId) (t : TypeId) → HasConcrete model t → IsUnderElement model u t → key_props model (first_concrete model t) ≡ set_key model u
  keys_same u t concrete (set, here, under) =
      (inherits_keys model sound).same (first_concrete model t) set.element (chain (first_concrete model t) t set.element (first_is t concrete).1 under)
      ∙ sym (ap (λ found. option_map_or (λ (entry : EntitySet). key_props model entry.element) found []) here)

  module _ (outer number : ℕ) (t : TypeId) (key : List Value) where
    abbrev ty : TypeId
    ty = first_concrete model t

    abbrev parts : List PropId
    parts = key_props model ty

    -- the value of a property of the type
    pub plain_has : (p : PropId) → Contains (props_of model ty) p → value_of model (plain model outer number t key) p ≡ plain_value model outer number parts key p
    plain_has p among = beside_map (plain_value model outer number parts key) (props_of model ty) p among

    -- of a part of the key
    pub plain_part : (p : PropId) → Contains parts p → value_of model (plain model outer number t key) p ≡ value_beside p parts key
    plain_part p part =
        plain_has p (key_among model sound p ty part)
        ∙ cond-true (is_among p parts) (value_beside p parts key) (option_map_or (needed_value model outer number p) (slice_get model.props p.index) Null) ((Decides-among parts p).1 part)

    -- of another property
    pub plain_other : (p : PropId) (declared : Prop) → At model.props p.index declared → Contains (props_of model ty) p → ¬ Contains parts p
        → value_of model (plain model outer number t key) p ≡ needed_value model outer number p declared
    plain_other p declared here among no_part =
        plain_has p among
        ∙ cond_both (is_among p parts) (value_beside p parts key) (option_map_or (needed_value model outer number p) (slice_get model.props p.index) Null)
        (λ v. v ≡ needed_value model outer number p declared)
        (λ told. absurd (no_part ((Decides-among parts p).0 told)))
        (λ told. ap (λ found. option_map_or (needed_value model outer number p) found Null) here)

    -- the key is the one that is told
    pub plain_key : length key ≡ length parts → key_of model (plain model outer number t key) ≡ key
    plain_key count =
        map_agree (value_of model (plain model outer number t key)) (λ p. value_beside p parts key) parts plain_part
        ∙ key_beside parts key (keys_apart model sound ty) count

-- a value that is told beside a part is as each is told to be
pub beside_told : (R : PropId → Value → Type 0) (props : List PropId) (key : List Value) → AllZip R props key → (p : PropId) → Contains props p → R p (value_beside p props key)
beside_told R [] key zipped p has = absurd (contains_nil p has)
beside_told R (q ∷ props) [] zipped p has = absurd zipped
beside_told R (q ∷ props) (v ∷ key) zipped p has =
    cond_both (q.index == p.index) v (value_beside p props key) (R p)
    (λ told. subst (λ r. R r v) ((Decides-prop q p).0 told) zipped.0)
    (λ told. ⊎_elim
    (λ (here : p ≡ q). absurd (not_from_Decides (q.index == p.index) (Decides-prop q p) told (sym here)))
    (λ (later : Contains props p). beside_told R props key zipped.1 p later)
    (contains_cons_cases q props p has))

-- a value that the property may hold
abbrev pub IsHeldBy : Prop → Value → Type 0
IsHeldBy declared v = ((v ≡ Null) × IsTrue declared.nullable) ⊎ InDomain v declared.kind

module _ (model : EntityModel) (sound : IsSoundModel model) (outer number : ℕ) (row : outer ≤ 4) (small : added_value number < most_indices) where
  module _ (p : PropId) (declared : Prop) (here : At model.props p.index declared) where
    -- the value of a property that may not be null
    abbrev filled : Value
    filled = if is_dependent model p then fresh declared.kind outer (added_value number) else first_value declared.kind

    filled_fits : InDomain filled declared.kind
    filled_fits = cond_both (is_dependent model p) (fresh declared.kind outer (added_value number)) (first_value declared.kind) (λ v. InDomain v declared.kind)
        (λ told. fresh_fits declared.kind (dependent_is model sound p ((Decides-dependent model p).0 told) declared here) (sound_kind model sound p declared here)
        outer (added_value number) row small)
        (λ told. first_fits declared.kind (sound_kind model sound p declared here))

    -- a property that is no part of the key may hold its value
    pub needed_held : IsHeldBy declared (needed_value model outer number p declared)
    needed_held = by declared.nullable refl
      where
        by : (nullable : Bool) → declared.nullable ≡ nullable → IsHeldBy declared (if nullable then Null else filled)
        by true is = inl (refl, is)
        by false is = inr filled_fits

  module _ (u : SetId) (t : TypeId) (concrete : HasConcrete model t) (under : IsUnderElement model u t) (key : List Value) (short : HasShortParts model u key) where
    abbrev own_type : TypeId
    own_type = first_concrete model t

    abbrev key_parts : List PropId
    key_parts = key_props model own_type

    pub parts_are : key_parts ≡ set_key model u
    parts_are = keys_same model sound u t concrete under

    short_here : AllZip (IsShortFor model) key_parts key
    short_here = subst (λ props. AllZip (IsShortFor model) props key) (sym parts_are) short

    pub key_long : length key ≡ length key_parts
    key_long = AllZip-long (IsShortFor model) key_parts key short_here

    -- a part of the key is short
    pub part_short : (p : PropId) → Contains key_parts p → IsShortFor model p (value_beside p key_parts key)
    part_short p part = beside_told (IsShortFor model) key_parts key short_here p part

    pub has_key : key_of model (plain model outer number t key) ≡ key
    has_key = plain_key model sound outer number t key key_long

    -- each property may hold its value
    pub plain_held : (p : PropId) (declared : Prop) → Contains (props_of model own_type) p → At model.props p.index declared
        → IsHeldBy declared (value_of model (plain model outer number t key) p)
    plain_held p declared among here = ⊎_elim key_held other_held (so_or_not (is_among p key_parts) (Decides-among key_parts p))
      where
        key_held : Contains key_parts p → IsHeldBy declared (value_of model (plain model outer number t key) p)
        key_held part =
            let is_short = part_short p part in
            let P : Value → Type 0 = λ v. InDomain v declared.kind in
            inr (subst P (sym (plain_part model sound outer number t key p part))
            (key_takes model sound own_type p part declared here (value_beside p key_parts key) is_short.short
            (let Q : Prop → Type 0 = λ d. IsOfSort d.kind (value_beside p key_parts key) in
            subst Q (at_once model.props p.index is_short.declared declared is_short.is_declared here) is_short.of_sort)))

        other_held : ¬ Contains key_parts p → IsHeldBy declared (value_of model (plain model outer number t key) p)
        other_held no_part = subst (IsHeldBy declared) (sym (plain_other model sound outer number t key p declared here among no_part)) (needed_held p declared here)

    -- it keeps the rules on types and values, in the set
    pub plain_well : StandsWell model u (plain model outer number t key)
    plain_well =
        let first = first_is model sound t concrete in
        let type : EntityType = first.0.0 in
        record {
          is_entity = (
            type,
            first.0.1,
            length-map (props_of model own_type) (plain_value model outer number key_parts key) ∙ ap (λ found. length (option_map_or (λ (one : EntityType). one.props) found [])) first.0.1,
          );
          fits = λ set here. (
              let same : under.0 ≡ set = at_once model.sets u.index under.0 set under.1 here in
              let P : EntitySet → Type 0 = λ one. IsA model own_type one.element in
              record { concrete = first.0; under = subst P same (chain own_type t under.0.element first.1 under.2) });
          nulls = λ p declared has null. ⊎_elim
              (λ (told : (value_of model (plain model outer number t key) p ≡ Null) × IsTrue declared.nullable). told.1)
              (λ (domain : InDomain (value_of model (plain model outer number t key) p) declared.kind).
              absurd (domain_not_null (value_of model (plain model outer number t key) p) declared.kind domain null))
              (plain_held p declared has.among has.is_declared);
          domains = λ p declared has. ⊎_elim
              (λ (told : (value_of model (plain model outer number t key) p ≡ Null) × IsTrue declared.nullable). inl told.0)
              (λ (domain : InDomain (value_of model (plain model outer number t key) p) declared.kind). inr domain)
              (plain_held p declared has.among has.is_declared);
        }
