-- The values by which entities of two regions are written alike: which they are, that they are admissible, and that the keys are one.
use Rattle.std.proofs.Common.{◌≡◌, ◌⊎◌, ⊎_elim, inl, inr, ◌&&◌, List, slice_get, unwrap_or, Contains, Option, Some, None, Bool, true, false, not, if◌then◌else◌, refl, sym, ap, subst, ◌∙◌, arith, map}
use Rattle.std.specs.Option.{option_map_or}
use Rattle.std.proofs.lemmas.Bool.{and_from, and_parts, cond-false, cond-true, cond_both}
use Rattle.std.proofs.lemmas.Bool.Decides.{Decides-not}
use Rattle.std.proofs.lemmas.Option.{same_Some}
use Rattle.round_trip.specs.Words.{SetId, PropId, TableId, ColId, Value, Null, Prop, At, key_props, Entity, key_of, value_of}
use Rattle.round_trip.specs.soundness.Lookups.{set_key}
use Rattle.cells.specs.Limits.{IsWithinLimits}
use Rattle.regions.specs.declared.region.Region.{Region}
use Rattle.regions.specs.declared.pattern.Symbol.TheVariants as symbol
use Rattle.regions.specs.declared.pattern.Focus.TheVariants as focus
use Rattle.regions.specs.Atoms.{atom_at}
use Rattle.regions.specs.Basis.{Basis}
use Rattle.regions.specs.Patterns.{pattern_of, Valuation}
use Rattle.regions.specs.Settled.{Possible, multi, possible, single}
use Rattle.regions.specs.region_laws.IsBasis.{IsBasis}
use Rattle.schema_laws.proofs.sound_types.Inherited.{declared_above, key_among}
use Rattle.regions.specs.region_laws.pattern.Listed.{Lists}
use Rattle.regions.proofs.region_laws.pattern.Laws.{listed_from}
use Rattle.regions.proofs.region_laws.pattern.types.Regions.{key_is, parts_of}
use Rattle.regions.proofs.region_laws.pattern.symbols.Standing.{listed_prop}
use Rattle.schema_laws.specs.short_values.Fresh.{focus_key, fresh}
use Rattle.region_states.specs.defaults.Defaults.{changed, declared_value, default_valuation, default_value, value_by}
use Rattle.schema_laws.specs.short_values.Places.{is_among, place_in}
use Rattle.region_states.specs.defaults.Admissible.{AreChoices, IsAdmissible, IsChoice, SeveralOf}
use Rattle.region_states.proofs.defaults.Changes.{changed_admissible, null_choice}
use Rattle.region_states.proofs.defaults.Defaults.{default_admissible}
use Rattle.schema_laws.proofs.short_values.Places.{Decides-among}
use Rattle.schema_laws.proofs.state_demand.lists.Places.{map_agree}
use Rattle.region_states.specs.conflicts.SameFacts.{is_multi, is_one_of, lists_anywhere}
use Rattle.region_states.proofs.Entities.{has_value}
use Rattle.region_states.specs.Entities.{focus_entity}
use Rattle.conflict_laws.specs.rival.Alike.{AreComparable, HaveOneKey, PatternsMatch}
use Rattle.conflict_laws.specs.rival.RivalValues.{faces_null, first_values, rival_value, second_values, shared_value}
use Rattle.conflict_laws.proofs.rival.Reading.{anywhere, faces_nullable, faces_told, somewhere}
use Rattle.conflict_laws.proofs.rival.Rows.{AreMatched, are_matched, matched_back}
use Rattle.conflict_laws.proofs.rival.Shared.{shared_choice}
use Rattle.conflict_laws.proofs.rival.Alike.{comparable_back}

-- where there are several
multi_told : (can : Possible) → is_multi can ≡ true → (n : Bool) × (can ≡ multi n)
multi_told (single v) told = cc
multi_told (multi n) told = (n, refl)

-- a property that is no part of the key, may have several values and is listed
pub record IsRival (basis : Basis) (region : Region) (p : PropId) (n : Bool) : Type 0 where
  pub no_key : ¬ Contains (key_props basis.schema.model region.ty) p
  pub several : possible basis.schema.model region.atoms (symbol.Prop p) ≡ multi n
  pub t : TableId
  pub c : ColId
  pub lists : Lists (pattern_of basis (focus.Entity region)) t c (symbol.Prop p)

module _ (basis : Basis) (region : Region) (p : PropId) where
  abbrev keys : List PropId
  keys = key_props basis.schema.model region.ty

  abbrev no_part : Bool
  no_part = not (is_one_of p keys)

  abbrev many : Bool
  many = is_multi (possible basis.schema.model region.atoms (symbol.Prop p))

  abbrev listed : Bool
  listed = lists_anywhere (pattern_of basis (focus.Entity region)) (symbol.Prop p)

  -- the test tells it, and the other way
  rival_test : (no_part && many && listed) ≡ true → (n : Bool) × IsRival basis region p n
  rival_test told =
      let both = and_parts (no_part && many) listed told in
      let first = and_parts no_part many both.0 in
      let several = multi_told (possible basis.schema.model region.atoms (symbol.Prop p)) first.1 in
      let place = somewhere (pattern_of basis (focus.Entity region)) (symbol.Prop p) both.1 in (
        several.0,
        record {
          no_key = (Decides-not (is_one_of p keys) (Decides-among keys p)).0 first.0;
          several = several.1;
          t = place.0;
          c = place.1;
          lists = place.2;
        },
      )

  rival_by : (n : Bool) → IsRival basis region p n → (no_part && many && listed) ≡ true
  rival_by n is =
      and_from (no_part && many) listed
      (and_from no_part many ((Decides-not (is_one_of p keys) (Decides-among keys p)).1 is.no_key) (ap is_multi is.several))
      (anywhere (pattern_of basis (focus.Entity region)) (symbol.Prop p) is.t is.c is.lists)

module _ (basis : Basis) (one two region other : Region) (p : PropId) where
  abbrev faces : Bool
  faces = faces_null basis region other p

  abbrev by_group : Option Prop → Option Value
  by_group found = option_map_or (λ declared. Some (shared_value basis one two p declared)) found None

  abbrev by_facing : Option Value
  by_facing = if faces then Some Null else by_group (slice_get basis.schema.model.props p.index)

  -- null, or the value of the group
  abbrev IsNew : Value → Type 0
  IsNew v = ((faces ≡ true) × (v ≡ Null)) ⊎ ((declared : Prop) × At basis.schema.model.props p.index declared × (v ≡ shared_value basis one two p declared))

  group_told : (v : Value) → by_group (slice_get basis.schema.model.props p.index) ≡ Some v → IsNew v
  group_told v at = by (slice_get basis.schema.model.props p.index) refl at
    where
      by : (found : Option Prop) → slice_get basis.schema.model.props p.index ≡ found → by_group found ≡ Some v → IsNew v
      by None none same = cc
      by (Some declared) here same = inr (declared, here, sym (same_Some (shared_value basis one two p declared) v same))

  facing_told : (v : Value) → by_facing ≡ Some v → IsNew v
  facing_told v at =
      let P : Option Value → Type 0 = λ found. found ≡ Some v → IsNew v in
      cond_both faces (Some Null) (by_group (slice_get basis.schema.model.props p.index)) P
      (λ told same. inl (told, sym (same_Some Null v same))) (λ told same. group_told v same) at

  -- what a changed value is
  pub rival_told : (v : Value) → rival_value basis one two region other p ≡ Some v → ((n : Bool) × IsRival basis region p n) × IsNew v
  rival_told v at =
      let P : Option Value → Type 0 = λ found. found ≡ Some v → ((n : Bool) × IsRival basis region p n) × IsNew v in
      cond_both (no_part basis region p && many basis region p && listed basis region p) by_facing None P
      (λ told same. (rival_test basis region p told, facing_told v same))
      (λ told same. absurd (let never : None ≡ Some v = same in cc)) at

  -- null where the property faces it, else the value of the group; a part of the key isn't changed
  pub rival_null : (n : Bool) → IsRival basis region p n → faces ≡ true → rival_value basis one two region other p ≡ Some Null
  rival_null n is null =
      cond-true (no_part basis region p && many basis region p && listed basis region p) by_facing None (rival_by basis region p n is)
      ∙ cond-true faces (Some Null) (by_group (slice_get basis.schema.model.props p.index)) null

  pub rival_shared : (n : Bool) → IsRival basis region p n → faces ≡ false → (declared : Prop) → At basis.schema.model.props p.index declared
      → rival_value basis one two region other p ≡ Some (shared_value basis one two p declared)
  rival_shared n is null declared here =
      cond-true (no_part basis region p && many basis region p && listed basis region p) by_facing None (rival_by basis region p n is)
      ∙ cond-false faces (Some Null) (by_group (slice_get basis.schema.model.props p.index)) null
      ∙ ap by_group here

  rival_key : Contains (key_props basis.schema.model region.ty) p → rival_value basis one two region other p ≡ None
  rival_key key = ap (λ part. if (not part && many basis region p && listed basis region p) then by_facing else None)
      ((Decides-among (key_props basis.schema.model region.ty) p).1 key)

module _ (basis : Basis) (is : IsBasis basis) (s : SetId) (one two : Region) where
  module _ (limits : IsWithinLimits basis.schema) (region other : Region) (comparable : AreComparable basis s region other) (matched : AreMatched basis region other) where
    -- each changed value is one that the entity may have
    choices : AreChoices basis region (rival_value basis one two region other)
    choices p v at =
        let told = rival_told basis one two region other p v at in
        let n : Bool = told.0.0 in
        let rival : IsRival basis region p n = told.0.1 in
        let among = listed_prop basis is s region comparable.is_one rival.t rival.c p
        (listed_from basis is (focus.Entity region) rival.t rival.c (symbol.Prop p) rival.lists) in
        let above = declared_above basis.schema.model is.sound.model p region.ty among in
        let several : (declared : Prop) → At basis.schema.model.props p.index declared → SeveralOf basis = λ declared here. record {
          s = s;
          region = region;
          listed = comparable.is_one;
          p = p;
          declared = declared;
          nullable = n;
          several = record { is_declared = here; among = among; no_key = rival.no_key; several = rival.several };
        } in
        ⊎_elim
        (λ (null : (faces_null basis region other p ≡ true) × (v ≡ Null)). subst (IsChoice basis region p) (sym null.1)
        (null_choice basis is (several above.0 above.1)
        (faces_nullable basis region other p is comparable.clear_one matched n rival.several (faces_told basis region other p null.0))))
        (λ (shared : (declared : Prop) × At basis.schema.model.props p.index declared × (v ≡ shared_value basis one two p declared)).
        subst (IsChoice basis region p) (sym shared.2)
        (shared_choice basis is one two limits (several shared.0 shared.1)))
        told.1

    -- so they are admissible together
    pub rival_admissible : IsAdmissible basis 0 region (changed (default_valuation basis 0 region) (rival_value basis one two region other))
    rival_admissible = changed_admissible basis is 0 (record { s = s; region = region; listed = comparable.is_one; values = default_valuation basis 0 region })
        (default_admissible basis is limits s region comparable.is_one 0 (omega arith)) (rival_value basis one two region other) choices

  module _ (comparable : AreComparable basis s one two) where
    -- and so are those of both regions
    pub rivals_admissible : IsWithinLimits basis.schema → PatternsMatch basis one two
        → IsAdmissible basis 0 one (first_values basis one two) × IsAdmissible basis 0 two (second_values basis one two)
    rivals_admissible limits match =
        let matched : AreMatched basis one two = are_matched basis one two match in (
          rival_admissible limits one two comparable matched,
          rival_admissible limits two one (comparable_back basis s one two comparable) (matched_back basis one two matched),
        )

    -- types of one set have one key
    same_keys : key_props basis.schema.model one.ty ≡ key_props basis.schema.model two.ty
    same_keys =
        key_is basis is s one comparable.is_one
        ∙ ap (set_key basis.schema.model) ((parts_of basis s one comparable.is_one).of_set ∙ sym (parts_of basis s two comparable.is_two).of_set)
        ∙ sym (key_is basis is s two comparable.is_two)

    -- so values that give one key give it to entities of both
    pub one_focus_key : (values others : Valuation) → HaveOneKey basis one values others
        → key_of basis.schema.model (focus_entity basis one values) ≡ key_of basis.schema.model (focus_entity basis two others)
    one_focus_key values others keyed =
        let mine : Entity = focus_entity basis one values in
        let theirs : Entity = focus_entity basis two others in
        map_agree (value_of basis.schema.model mine) (value_of basis.schema.model theirs) (key_props basis.schema.model one.ty) (λ p among.
        has_value basis one values p (key_among basis.schema.model is.sound.model p one.ty among)
        ∙ keyed.keys p among
        ∙ sym (has_value basis two others p (key_among basis.schema.model is.sound.model p two.ty (subst (λ props. Contains props p) same_keys among))))
        ∙ ap (map (value_of basis.schema.model theirs)) same_keys

    -- the parts have the usual values
    default_same : (p : PropId) → Contains (key_props basis.schema.model one.ty) p → Contains (key_props basis.schema.model two.ty) p
        → default_value basis 0 one p ≡ default_value basis 0 two p
    default_same p key key_too = by (slice_get basis.schema.model.props p.index)
      where
        is_number : (region : Region) (declared : Prop) → Contains (key_props basis.schema.model region.ty) p
            → declared_value basis 0 region p declared ≡ fresh declared.kind 0 (focus_key (place_in p (key_props basis.schema.model region.ty)))
        is_number region declared among =
            let props : List PropId = key_props basis.schema.model region.ty in
            cond-true (is_among p props) (fresh declared.kind 0 (focus_key (place_in p props))) (value_by basis 0 region.ty p declared (atom_at region.atoms p))
            ((Decides-among props p).1 among)

        by : (found : Option Prop) → option_map_or (declared_value basis 0 one p) found Null ≡ option_map_or (declared_value basis 0 two p) found Null
        by None = refl
        by (Some declared) =
            is_number one declared key ∙ ap (λ props. fresh declared.kind 0 (focus_key (place_in p props))) same_keys ∙ sym (is_number two declared key_too)

    -- and so the two regions' values have one key
    pub rival_keys : HaveOneKey basis one (first_values basis one two) (second_values basis one two)
    rival_keys = record {
      keys = λ p key. (let key_too = subst (λ props. Contains props p) same_keys key in
          ap (λ found. unwrap_or found (default_value basis 0 one p)) (rival_key basis one two one two p key)
          ∙ default_same p key key_too
          ∙ sym (ap (λ found. unwrap_or found (default_value basis 0 two p)) (rival_key basis one two two one p key_too)));
      parts = refl;
    }
