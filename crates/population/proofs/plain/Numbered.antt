-- The entities of numbers: of the types that are asked, with keys that differ by the number.
use Rattle.std.proofs.Common.{◌≡◌, ◌⊎◌, ⊎_elim, inl, inr, ℕ, zero, suc, ◌+◌, ◌<◌, ◌==◌, List, [], ◌∷◌, map, length, slice_get, Contains, Option, Some, None, Bool, true, false, refl, sym, ap, subst, ◌∙◌, arith}
use Rattle.std.specs.Option.{option_map_or}
use Rattle.std.proofs.lemmas.Bool.{cond-true, cond_both}
use Rattle.std.proofs.lemmas.List.Elements.{All-contains}
use Rattle.std.proofs.lemmas.Option.{slice_get_within}
use Rattle.emc_base.proofs.Mapped.{all_zip-map, contains_at}
use Rattle.emc_base.proofs.Lists.{all_from_members, item_at}
use Rattle.emc_base.proofs.Members.{contains_head, contains_tail}
use Rattle.round_trip.specs.Words.{SetId, TypeId, PropId, AssocId, EntityModel, EntityType, EntitySet, Assoc, End, At, key_of, key_props}
use Rattle.edm_types.specs.IsA.{same}
use Rattle.round_trip.specs.soundness.Lookups.{HasConcrete, IsUnderElement, set_key}
use Rattle.round_trip.specs.soundness.models.Inheritance.{IsKeyProp}
use Rattle.round_trip.specs.soundness.models.Constraints.{IsSoundAssoc, IsSoundEnd}
use Rattle.round_trip.specs.soundness.models.ModelIds.{IsTypeId}
use Rattle.round_trip.specs.soundness.models.Models.{IsSoundModel}
use Rattle.schema_laws.specs.short_values.Fresh.{added, added_value, fresh_at, most_indices}
use Rattle.schema_laws.specs.short_values.Short.{IsOfSort, IsShort}
use Rattle.schema_laws.proofs.sound_demand.Keys.{keys_some}
use Rattle.schema_laws.proofs.sound_types.Inherited.{key_prop}
use Rattle.schema_laws.proofs.short_values.Places.{fresh_is}
use Rattle.schema_laws.proofs.short_values.Short.{fresh_same, fresh_short, fresh_sort}
use Rattle.schema_laws.proofs.short_values.Uses.{index_below}
use Rattle.schema_laws.proofs.state_demand.lists.Ids.{Decides-set}
use Rattle.schema_laws.proofs.state_demand.lists.Places.{agree_by_map}
use Rattle.population.specs.Given.{HasNumbers, HasShortParts, IsShortFor, StandsWell}
use Rattle.population.specs.Numbered.{asked_type, end_number, end_of, ends_of, number_count, numbered, numbered_key, twice, type_at_end}
use Rattle.population.proofs.plain.Plain.{has_key, plain_well}

-- the ends of an association stand at its two places
pub end_at : (assocs : List Assoc) (i : ℕ) (assoc : Assoc) → At assocs i assoc → At (ends_of assocs) (twice i) assoc.first × At (ends_of assocs) (suc (twice i)) assoc.second
end_at [] i assoc here = let never : None ≡ Some assoc = here in cc
end_at (one ∷ assocs) zero assoc here = let is : one ≡ assoc = (let both : Some one ≡ Some assoc = here in cc) in (ap (λ (a : Assoc). Some a.first) is, ap (λ (a : Assoc). Some a.second) is)
end_at (one ∷ assocs) (suc i) assoc here = end_at assocs i assoc here

-- what stands among the ends is an end
end_from : (assocs : List Assoc) (place : ℕ) (end : End) → At (ends_of assocs) place end → (assoc : Assoc) × Contains assocs assoc × ((end ≡ assoc.first) ⊎ (end ≡ assoc.second))
end_from [] place end here = let never : None ≡ Some end = here in cc
end_from (one ∷ assocs) zero end here = let is : one.first ≡ end = (let both : Some one.first ≡ Some end = here in cc) in (one, contains_head one assocs, inl (sym is))
end_from (one ∷ assocs) (suc zero) end here = let is : one.second ≡ end = (let both : Some one.second ≡ Some end = here in cc) in (one, contains_head one assocs, inr (sym is))
end_from (one ∷ assocs) (suc (suc place)) end here = let found = end_from assocs place end here in (found.0, contains_tail one assocs found.0 found.1, found.2)

-- twice as much
pub twice_is : (n : ℕ) → twice n ≡ n + n
twice_is zero = refl
twice_is (suc n) = let rest = twice_is n in omega (arith, rest)

module _ (model : EntityModel) (sound : IsSoundModel model) where
  pub sound_end : (assoc : Assoc) → Contains model.assocs assoc → (first : Bool) → IsSoundEnd model (end_of first assoc)
  sound_end assoc has true = (All-contains (IsSoundAssoc model) model.assocs assoc sound.assocs has).first
  sound_end assoc has false = (All-contains (IsSoundAssoc model) model.assocs assoc sound.assocs has).second

  end_is_sound : (place : ℕ) (end : End) → At (ends_of model.assocs) place end → IsSoundEnd model end
  end_is_sound place end here =
      let found = end_from model.assocs place end here in
      ⊎_elim
      (λ (is : end ≡ found.0.first). subst (IsSoundEnd model) (sym is) (sound_end found.0 found.1 true))
      (λ (is : end ≡ found.0.second). subst (IsSoundEnd model) (sym is) (sound_end found.0 found.1 false))
      found.2

  -- the key of a set has a part
  pub set_key_is : (u : SetId) (set : EntitySet) → At model.sets u.index set → set_key model u ≡ key_props model set.element
  set_key_is u set here = ap (λ found. option_map_or (λ (entry : EntitySet). key_props model entry.element) found []) here

  module _ (u : SetId) (set : EntitySet) (here : At model.sets u.index set) where
    -- a type that may be asked: there are entities of it, and they are the set's
    record IsAsked (t : TypeId) : Type 0 where
      concrete : HasConcrete model t
      under : IsUnderElement model u t

    element_asked : IsAsked set.element
    element_asked = record {
      concrete = (let Has : EntitySet → Type 0 = λ one. HasConcrete model one.element in All-contains Has model.sets set sound.elements (contains_at model.sets u.index set here));
      under = (set, here, same set.element);
    }

    asked : (number : ℕ) → IsAsked (asked_type model u set number)
    asked zero = element_asked
    asked (suc place) = by (slice_get (ends_of model.assocs) place) refl
      where
        by : (found : Option End) → slice_get (ends_of model.assocs) place ≡ found → IsAsked (option_map_or (type_at_end model u set) found set.element)
        by None none = element_asked
        by (Some end) is =
            let of_end : IsSoundEnd model end = end_is_sound place end is in
            cond_both (end.set.index == u.index) end.ty set.element IsAsked
            (λ told. record { concrete = of_end.concrete; under = subst (λ v. IsUnderElement model v end.ty) ((Decides-set end.set u).0 told) of_end.under })
            (λ told. element_asked)

    pub asked_concrete : (number : ℕ) → HasConcrete model (asked_type model u set number)
    asked_concrete number = (asked number).concrete

    pub asked_under : (number : ℕ) → IsUnderElement model u (asked_type model u set number)
    asked_under number = (asked number).under

    -- the element type is one of the model's
    element_type : (type : EntityType) × At model.types set.element.index type
    element_type = item_at model.types set.element.index (All-contains (λ (one : EntitySet). IsTypeId model one.element) model.sets set sound.ids.elements (contains_at model.sets u.index set here))

    -- some property is a part of the key
    pub some_part : (p : PropId) × Contains (set_key model u) p
    some_part = by (set_key model u) refl
      where
        by : (key : List PropId) → set_key model u ≡ key → (p : PropId) × Contains (set_key model u) p
        by [] none = absurd (keys_some model sound set.element element_type.0 element_type.1 (sym (set_key_is u set here) ∙ none))
        by (p ∷ key) is = (p, subst (λ list. Contains list p) (sym is) (contains_head p key))

  -- the number of an end asks for its type
  pub asked_end : (a : AssocId) (assoc : Assoc) → At model.assocs a.index assoc → (first : Bool) (set : EntitySet)
      → asked_type model (end_of first assoc).set set (end_number first a) ≡ (end_of first assoc).ty
  asked_end a assoc here true set =
      ap (λ found. option_map_or (type_at_end model assoc.first.set set) found set.element) (end_at model.assocs a.index assoc here).0
      ∙ cond-true (assoc.first.set.index == assoc.first.set.index) assoc.first.ty set.element ((Decides-set assoc.first.set assoc.first.set).1 refl)
  asked_end a assoc here false set =
      ap (λ found. option_map_or (type_at_end model assoc.second.set set) found set.element) (end_at model.assocs a.index assoc here).1
      ∙ cond-true (assoc.second.set.index == assoc.second.set.index) assoc.second.ty set.element ((Decides-set assoc.second.set assoc.second.set).1 refl)

  -- it is one of the numbers
  pub end_within : (a : AssocId) (assoc : Assoc) → At model.assocs a.index assoc → (first : Bool) → end_number first a < number_count model
  end_within a assoc here true =
      let inside = slice_get_within model.assocs a.index assoc here in
      let one = twice_is a.index in
      let all = twice_is (length model.assocs) in
      omega (arith, inside, one, all)
  end_within a assoc here false =
      let inside = slice_get_within model.assocs a.index assoc here in
      let one = twice_is a.index in
      let all = twice_is (length model.assocs) in
      omega (arith, inside, one, all)

module _ (model : EntityModel) (outer : ℕ) (has : HasNumbers model outer) where
  pub number_small : (number : ℕ) → number < number_count model → added_value number < most_indices
  number_small number below =
      let few = has.few in
      let all = twice_is (length model.assocs) in
      index_below (added number) (omega (arith, few, all, below))

  -- a numbered part of a key is short
  pub fresh_part : (t : TypeId) (p : PropId) → Contains (key_props model t) p → (index : ℕ) → index < most_indices → IsShortFor model p (fresh_at model outer p index)
  fresh_part t p part index below =
      let is_key : IsKeyProp model p = key_prop model has.sound p t part in
      let is = fresh_is model p is_key.declared is_key.is_declared outer index in
      record {
        declared = is_key.declared;
        is_declared = is_key.is_declared;
        short = subst IsShort (sym is) (fresh_short is_key.declared.kind outer index has.row below);
        of_sort = subst (IsOfSort is_key.declared.kind) (sym is) (fresh_sort is_key.declared.kind is_key.kind outer index);
      }

  -- two of one property have one index
  pub fresh_once : (t : TypeId) (p : PropId) → Contains (key_props model t) p → (i j : ℕ) → fresh_at model outer p i ≡ fresh_at model outer p j → i ≡ j
  fresh_once t p part i j equal =
      let is_key : IsKeyProp model p = key_prop model has.sound p t part in
      (fresh_same is_key.declared.kind outer outer i j has.row has.row
      (sym (fresh_is model p is_key.declared is_key.is_declared outer i) ∙ equal ∙ fresh_is model p is_key.declared is_key.is_declared outer j)).1

  -- keys that are made of indices by the parts have short parts
  pub made_short : (u : SetId) (set : EntitySet) → At model.sets u.index set → (index : PropId → ℕ) → ((p : PropId) → Contains (set_key model u) p → index p < most_indices)
      → HasShortParts model u (map (λ p. fresh_at model outer p (index p)) (set_key model u))
  made_short u set here index below =
      all_zip-map (Contains (set_key model u)) (IsShortFor model) (λ p. fresh_at model outer p (index p))
      (λ p part. fresh_part set.element p (subst (λ key. Contains key p) (set_key_is model has.sound u set here) part) (index p) (below p part))
      (set_key model u) (all_from_members (Contains (set_key model u)) (set_key model u) (λ p part. part))

  -- and where they are one, so are the indices
  pub made_once : (u : SetId) (set : EntitySet) → At model.sets u.index set → (one other : PropId → ℕ)
      → map (λ p. fresh_at model outer p (one p)) (set_key model u) ≡ map (λ p. fresh_at model outer p (other p)) (set_key model u)
      → (p : PropId) → Contains (set_key model u) p → one p ≡ other p
  made_once u set here one other equal p part =
      fresh_once set.element p (subst (λ key. Contains key p) (set_key_is model has.sound u set here) part) (one p) (other p)
      (agree_by_map (λ q. fresh_at model outer q (one q)) (λ q. fresh_at model outer q (other q)) (set_key model u) equal p part)

  module _ (u : SetId) (set : EntitySet) (here : At model.sets u.index set) where
    pub numbered_short : (number : ℕ) → number < number_count model → HasShortParts model u (numbered_key model outer u number)
    numbered_short number below = made_short u set here (λ p. added_value number) (λ p part. number_small number below)

    pub numbered_once : (i j : ℕ) → numbered_key model outer u i ≡ numbered_key model outer u j → i ≡ j
    numbered_once i j equal =
        let part = some_part model has.sound u set here in
        let indices = made_once u set here (λ p. added_value i) (λ p. added_value j) equal part.0 part.1 in
        omega (arith, indices)

    module _ (number : ℕ) (below : number < number_count model) where
      pub numbered_has : key_of model (numbered model outer u set number) ≡ numbered_key model outer u number
      numbered_has = has_key model has.sound outer number has.row (number_small number below) u (asked_type model u set number) (asked_concrete model has.sound u set here number)
          (asked_under model has.sound u set here number) (numbered_key model outer u number) (numbered_short number below)

      pub numbered_well : StandsWell model u (numbered model outer u set number)
      numbered_well = plain_well model has.sound outer number has.row (number_small number below) u (asked_type model u set number)
          (asked_concrete model has.sound u set here number) (asked_under model has.sound u set here number) (numbered_key model outer u number) (numbered_short number below)
