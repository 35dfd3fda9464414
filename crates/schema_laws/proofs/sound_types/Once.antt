-- In a sound model a type has each property and each name once: what it inherits is declared above it, under other names, and no type stands
-- above itself.
use Rattle.std.proofs.Common.{◌≡◌, ◌≢◌, ◌==◌, ⊎_elim, inl, inr, ℕ, zero, suc, ◌+◌, ◌<◌, List, [], ◌++◌, length, map, filter, get_or, slice_get, AllPairs, Contains, Option, Some, None, Bool, refl, sym, ap, subst, ◌∙◌, arith}
use Rattle.std.specs.Bool.{⊤}
use Rattle.std.specs.List.{enumerate_from}
use Rattle.std.specs.Option.{option_map_or}
use Rattle.std.proofs.lemmas.Bool.Decides.{Decides-eqb}
use Rattle.std.proofs.lemmas.List.{get_or_append_left, get_or-map, length-append, length-map}
use Rattle.std.proofs.lemmas.List.Elements.{All-contains, Contains-append_cases, Contains-append_left, Contains-get_or}
use Rattle.std.proofs.lemmas.Option.{MatchOption-at_some, slice_get_within}
use Rattle.emc_base.specs.Lists.{At, AreApart, places_of}
use Rattle.emc_base.proofs.Lists.{at_once, item_at}
use Rattle.emc_base.proofs.Mapped.{contains_at, contains_filter, contains_map, map-filter_enumerated}
use Rattle.emc_base.proofs.Numbered.{all_pairs_map, at_places, enumerated_at, filter_contains, map_contains, places_rise}
use Rattle.round_trip.specs.Words.{EntityModel, EntityType, Prop, PropId, TypeId, props_of}
use Rattle.edm_types.specs.Forest.{type_numbered}
use Rattle.round_trip.specs.soundness.models.Inheritance.{declared_props, prop_numbered}
use Rattle.round_trip.specs.soundness.models.ModelNames.{own_names}
use Rattle.round_trip.specs.soundness.models.Models.{IsSoundModel}
use Rattle.graphs.specs.base_chains.Chains.{IsAncestor, IsUpFrom, direct, further}
use Rattle.graphs.proofs.base_chains.Chains.{Ends}
use Rattle.emc_base.proofs.Members.{contains_nil}
use Rattle.emc_base.proofs.facts.Pairs.{pairs_append, pairs_nil}
use Rattle.schema_laws.proofs.sound_forests.Whole.{base_place}
use Rattle.schema_laws.specs.sound_types.PropNames.{HaveOtherNames}
use Rattle.schema_laws.proofs.sound_types.BasePlaces.{above as is_above, ancestor_within, base_ends, base_here, none_above_itself}

module _ (model : EntityModel) (sound : IsSoundModel model) where
  -- the property is declared by the type at this place or by one above it
  record IsDeclaredUpFrom (i : ℕ) (prop : PropId) : Type 0 where
    declared : Prop
    here : At model.props prop.index declared
    up : IsUpFrom (base_place model) i declared.owner.index

  record HasOnce (i : ℕ) (props : List PropId) : Type 0 where
    once : AreApart props
    named : AllPairs (HaveOtherNames model) props
    each : (prop : PropId) → Contains props prop → IsDeclaredUpFrom i prop

  owned : (t : TypeId) (prop : PropId) → Contains (declared_props model t) prop → (declared : Prop) × At model.props prop.index declared × (declared.owner.index ≡ t.index)
  owned t prop has =
      let test : Prop → Bool = λ one. one.owner.index == t.index in
      let place = map_contains prop_numbered (places_of test model.props) prop has in
      let found = at_places test model.props place.0 place.1 in
      let P : ℕ → Type 0 = λ k. At model.props k found.0 in
      (found.0, subst P (ap (λ (p : PropId). p.index) place.2) found.1, (Decides-eqb found.0.owner.index t.index).0 found.2)

  declared_apart : (t : TypeId) → AreApart (declared_props model t)
  declared_apart t =
      let test : Prop → Bool = λ one. one.owner.index == t.index in
      let rise = places_rise test model.props in
      all_pairs_map (λ one other. one ≢ other) prop_numbered (places_of test model.props)
      (λ i j d below within same.
      let less : get_or (places_of test model.props) i d < get_or (places_of test model.props) j d = rise i j d below within in
      let equal : get_or (places_of test model.props) i d ≡ get_or (places_of test model.props) j d = ap (λ (p : PropId). p.index) same in
      absurd (omega arith))

  -- a property's name is among those that its owner declares
  named_own : (t : TypeId) (type : EntityType) (place : ℕ) (prop : Prop) → At model.props place prop → prop.owner.index ≡ t.index → Contains (own_names model t type) prop.name
  named_own t type place prop here own =
      let mine : List Prop = filter (λ one. one.owner.index == t.index) model.props in
      let stands : Contains mine prop = contains_filter (λ (one : Prop). one.owner.index == t.index) model.props prop (contains_at model.props place prop here)
      ((Decides-eqb prop.owner.index t.index).1 own) in
      Contains-append_left (map (λ (one : Prop). one.name) mine) (map (λ nav. nav.name) type.navs) prop.name (contains_map (λ (one : Prop). one.name) mine prop stands)

  -- the properties that a type declares have different names
  declared_named : (t : TypeId) (type : EntityType) → At model.types t.index type → AllPairs (HaveOtherNames model) (declared_props model t)
  declared_named t type here =
      all_pairs_map (HaveOtherNames model) prop_numbered (places_of test model.props)
      (all_pairs_map (λ one other. HaveOtherNames model (prop_numbered one) (prop_numbered other)) (λ (entry : ℕ × Prop). entry.0) entries pairs)
    where
      test : Prop → Bool
      test one = one.owner.index == t.index

      entries : List (ℕ × Prop)
      entries = filter (λ entry. test entry.1) (enumerate_from 0 model.props)

      names : List (List ℕ)
      names = map (λ entry. entry.1.name) entries

      navs : List (List ℕ)
      navs = map (λ nav. nav.name) type.navs

      apart : AreApart (names ++ navs)
      apart =
          let P : List (List ℕ) → Type 0 = λ own. AreApart (own ++ navs) in
          subst P (sym (map-filter_enumerated (λ (prop : Prop). prop.name) test 0 model.props)) (sound.names.members t type here).own

      name_at : (i : ℕ) (d : ℕ × Prop) (this : Prop) (e : List ℕ) → i < length entries → At model.props (get_or entries i d).0 this → get_or (names ++ navs) i e ≡ this.name
      name_at i d this e within at =
          let name_in : ℕ × Prop → List ℕ = λ entry. entry.1.name in
          let long : i < length names = subst (λ n. i < n) (sym (length-map entries name_in)) within in
          let entry = get_or entries i d in
          let stands = filter_contains (λ (one : ℕ × Prop). test one.1) (enumerate_from 0 model.props) entry (Contains-get_or entries i d within) in
          get_or_append_left names navs e i long
          ∙ get_or-map name_in entries i d e within
          ∙ ap (λ (prop : Prop). prop.name) (at_once model.props entry.0 entry.1 this (enumerated_at model.props entry stands.0) at)

      pairs : AllPairs (λ one other. HaveOtherNames model (prop_numbered one.0) (prop_numbered other.0)) entries
      pairs i j d below within this that at_this at_that same =
          let first : i < length entries = omega arith in
          let long : length names ≡ length entries = length-map entries (λ (entry : ℕ × Prop). entry.1.name) in
          let whole : length (names ++ navs) ≡ length names + length navs = length-append names navs in
          apart i j this.name below (omega arith) (name_at i d this this.name first at_this ∙ same ∙ sym (name_at j d that this.name within at_that))

  declared_once : (i : ℕ) (type : EntityType) → At model.types i type → HasOnce i (declared_props model (type_numbered i))
  declared_once i type here = record {
    once = declared_apart (type_numbered i);
    named = declared_named (type_numbered i) type here;
    each = λ prop has. (let own = owned (type_numbered i) prop has in record { declared = own.0; here = own.1; up = inl (sym own.2) });
  }

  -- what a type declares behind what its base type has
  behind_base : (i j : ℕ) (type : EntityType) → At model.types i type → base_place model i ≡ Some j → (above : List PropId) → HasOnce j above
      → HasOnce i (above ++ declared_props model (type_numbered i))
  behind_base i j type here is above has = record {
    once = pairs_append (λ one other. one ≢ other) above (declared_props model (type_numbered i)) has.once (declared_apart (type_numbered i))
        (λ prop other upper own same.
        let P : PropId → Type 0 = λ one. Contains (declared_props model (type_numbered i)) one in
        strange prop (has.each prop upper) (owned (type_numbered i) prop (subst P (sym same) own)));
    named = pairs_append (HaveOtherNames model) above (declared_props model (type_numbered i)) has.named (declared_named (type_numbered i) type here)
        (λ prop other upper own. other_name prop other (has.each prop upper) (owned (type_numbered i) other own));
    each = λ prop member. ⊎_elim
        (λ (upper : Contains above prop). let it = has.each prop upper in record { declared = it.declared; here = it.here; up = inr (lifted it.declared.owner.index it.up) })
        (λ (own : Contains (declared_props model (type_numbered i)) prop). (declared_once i type here).each prop own)
        (Contains-append_cases above (declared_props model (type_numbered i)) prop member);
  }
    where
      lifted : (k : ℕ) → IsUpFrom (base_place model) j k → IsAncestor (base_place model) i k
      lifted k (inl same) = let P : ℕ → Type 0 = λ n. IsAncestor (base_place model) i n in subst P same (direct i j is)
      lifted k (inr upper) = further i j k is upper

      strange : (prop : PropId) → IsDeclaredUpFrom j prop → (declared : Prop) × At model.props prop.index declared × (declared.owner.index ≡ i) → ⊥
      strange prop upper own =
          let one : upper.declared ≡ own.0 = at_once model.props prop.index upper.declared own.0 upper.here own.1 in
          let P : ℕ → Type 0 = λ n. IsAncestor (base_place model) i n in
          none_above_itself model sound i (subst P (ap (λ (p : Prop). p.owner.index) one ∙ own.2) (lifted upper.declared.owner.index upper.up))

      other_name : (prop other : PropId) → IsDeclaredUpFrom j prop → (declared : Prop) × At model.props other.index declared × (declared.owner.index ≡ i) → HaveOtherNames model prop other
      other_name prop other upper own this that at_this at_that same =
          let k : ℕ = upper.declared.owner.index in
          let up : IsAncestor (base_place model) i k = lifted k upper.up in
          let owner = item_at model.types k (ancestor_within model sound i k up) in
          let is_this : upper.declared ≡ this = at_once model.props prop.index upper.declared this upper.here at_this in
          let is_that : own.0 ≡ that = at_once model.props other.index own.0 that own.1 at_that in
          let theirs : Contains (own_names model (type_numbered k) owner.0) this.name =
          named_own (type_numbered k) owner.0 prop.index this at_this (ap (λ (p : Prop). p.owner.index) (sym is_this)) in
          let mine : Contains (own_names model (type_numbered i) type) that.name =
          named_own (type_numbered i) type other.index that at_that (ap (λ (p : Prop). p.owner.index) (sym is_that) ∙ own.2) in
          let Strange : List ℕ → Type 0 = λ name. ¬ Contains (own_names model (type_numbered k) owner.0) name in
          let inherited = (sound.names.members (type_numbered i) type here).inherited (type_numbered k) owner.0 (is_above model i k up) owner.1 in
          All-contains Strange (own_names model (type_numbered i) type) that.name inherited mine (subst (Contains (own_names model (type_numbered k) owner.0)) same theirs)

  of_type : (i : ℕ) (type : EntityType) → At model.types i type → ((j : ℕ) → base_place model i ≡ Some j → HasOnce j (props_of model (type_numbered j))) → HasOnce i type.props
  of_type i type here up = subst (HasOnce i) (sym (sound.types (type_numbered i) type here).props) (by type.base refl)
    where
      by : (base : Option TypeId) → type.base ≡ base → HasOnce i (option_map_or (props_of model) base [] ++ declared_props model (type_numbered i))
      by None is = declared_once i type here
      by (Some above) is =
          let at : base_place model i ≡ Some above.index = base_here model (type_numbered i) above (type, here, is) in
          behind_base i above.index type here at (props_of model above) (up above.index at)

  has_none : (i : ℕ) → HasOnce i []
  has_none i = record {
    once = pairs_nil (λ one other. one ≢ other);
    named = pairs_nil (HaveOtherNames model);
    each = λ prop has. absurd (contains_nil prop has);
  }

  climb : (n i : ℕ) → Ends (base_place model) n i → HasOnce i (props_of model (type_numbered i))
  climb zero i end = absurd end
  climb (suc n) i end = by (slice_get model.types i) refl (λ j is. climb n j (MatchOption-at_some ⊤ (λ k. Ends (base_place model) n k) j is end))
    where
      by : (found : Option EntityType) → slice_get model.types i ≡ found → ((j : ℕ) → base_place model i ≡ Some j → HasOnce j (props_of model (type_numbered j)))
          → HasOnce i (option_map_or (λ (type : EntityType). type.props) found [])
      by None here up = has_none i
      by (Some type) here up = of_type i type here up

  of_id : (t : TypeId) → HasOnce t.index (props_of model t)
  of_id t = by (slice_get model.types t.index) refl
    where
      by : (found : Option EntityType) → slice_get model.types t.index ≡ found → HasOnce t.index (option_map_or (λ (type : EntityType). type.props) found [])
      by None here = has_none t.index
      by (Some type) here =
          let inside : t.index < length model.types = slice_get_within model.types t.index type here in
          let has = climb (length model.types) t.index (base_ends model sound t.index inside) in
          subst (λ (found : Option EntityType). HasOnce t.index (option_map_or (λ (type : EntityType). type.props) found [])) here has

  -- no property stands twice in a type
  pub props_once : (t : TypeId) → AreApart (props_of model t)
  props_once t = (of_id t).once

  -- and no name
  pub names_once : (t : TypeId) → AllPairs (HaveOtherNames model) (props_of model t)
  names_once t = (of_id t).named
