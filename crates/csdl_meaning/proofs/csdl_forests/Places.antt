-- The types that pass a test, by the places of a document and by those of the model that it means.
use Rattle.std.proofs.Common.{◌≡◌, ◌==◌, ℕ, ◌+◌, ◌<◌, Bool, true, false, cond, List, [], ◌∷◌, length, map, filter, Contains, Option, Some, None, option_map, refl, sym, ap, subst, ◌∙◌, zero-add}
use Rattle.std.specs.List.{enumerate_from, range_with_len}
use Rattle.std.specs.Option.{is_none, option_map_or}
use Rattle.std.proofs.lemmas.Bool.Decides.{Decides-eqb}
use Rattle.std.proofs.lemmas.List.Elements.{All-contains, All-contains_itself, All-filter, filter_passes}
use Rattle.std.proofs.lemmas.List.FromFn.{get_or-range_with_len, length-range_with_len}
use Rattle.emc_base.specs.Lists.{places_of}
use Rattle.round_trip.specs.Words.{EntityType, TypeId}
use Rattle.edm_types.specs.Forest.{type_numbered}
use Rattle.csdl_names.specs.declared.csdl_lists.raw.RawModel.{RawModel}
use Rattle.csdl_meaning.specs.Meaning.{base_in, is_base, is_top, type_of, type_places, types_in}

-- items made of numbered ones, where the test of an item is one of its number: the places of those that pass
module _ {X Y : Type 0} (make : ℕ → X → Y) (test : Y → Bool) (passes : ℕ → Bool) (tells : (n : ℕ) (x : X) → test (make n x) ≡ passes n) where
  one_more : (kept : Bool) (entry : ℕ × Y) (entries : List (ℕ × Y))
      → map (λ (e : ℕ × Y). e.0) (cond kept (entry ∷ entries) entries) ≡ cond kept (entry.0 ∷ map (λ (e : ℕ × Y). e.0) entries) (map (λ (e : ℕ × Y). e.0) entries)
  one_more true entry entries = refl
  one_more false entry entries = refl

  pub passing : (n : ℕ) (xs : List X) → map (λ (e : ℕ × Y). e.0) (filter (λ (e : ℕ × Y). test e.1) (enumerate_from n (map (λ (e : ℕ × X). make e.0 e.1) (enumerate_from n xs))))
      ≡ filter passes (range_with_len n (length xs))
  passing n [] = refl
  passing n (x ∷ xs) =
      let entries : List (ℕ × Y) = filter (λ (e : ℕ × Y). test e.1) (enumerate_from (n + 1) (map (λ (e : ℕ × X). make e.0 e.1) (enumerate_from (n + 1) xs))) in
      ap (λ kept. map (λ (e : ℕ × Y). e.0) (cond kept ((n, make n x) ∷ entries) entries)) (tells n x)
      ∙ one_more (passes n) (n, make n x) entries
      ∙ ap (λ places. cond (passes n) (n ∷ places) places) (passing (n + 1) xs)

module _ (raw : RawModel) where
  -- the types without a base type
  pub tops : places_of (λ (type : EntityType). is_none type.base) (types_in raw) ≡ type_places raw (is_top raw)
  tops = passing (type_of raw) (λ (type : EntityType). is_none type.base) (is_top raw) (λ i type. by (base_in raw i)) 0 raw.types
    where
      by : (found : Option ℕ) → is_none (option_map type_numbered found) ≡ is_none found
      by None = refl
      by (Some j) = refl

  -- those whose base type is this one
  pub based_on : (i : ℕ) → places_of (λ (type : EntityType). option_map_or (λ base. base.index == i) type.base false) (types_in raw) ≡ type_places raw (is_base raw i)
  based_on i = passing (type_of raw) (λ (type : EntityType). option_map_or (λ base. base.index == i) type.base false) (is_base raw i) (λ j type. by (base_in raw j)) 0 raw.types
    where
      by : (found : Option ℕ) → option_map_or (λ (base : TypeId). base.index == i) (option_map type_numbered found) false ≡ option_map_or (λ base. base == i) found false
      by None = refl
      by (Some j) = refl

  module _ (test : ℕ → Bool) (i : ℕ) (has : Contains (type_places raw test) i) where
    -- a place that passes is that of a type
    pub place_inside : i < length raw.types
    place_inside =
        let places : List ℕ = range_with_len 0 (length raw.types) in
        let found = All-contains (Contains places) (type_places raw test) i (All-filter test (Contains places) places (All-contains_itself places)) has in
        let inside : found.0 < length raw.types = subst (λ count. found.0 < count) (length-range_with_len 0 (length raw.types)) found.1 in
        let same : found.0 ≡ i = sym (get_or-range_with_len 0 (length raw.types) found.0 i inside ∙ zero-add found.0) ∙ found.2 in
        subst (λ j. j < length raw.types) same inside

    pub place_passes : test i ≡ true
    place_passes = All-contains (λ j. test j ≡ true) (type_places raw test) i (filter_passes test (range_with_len 0 (length raw.types))) has

  -- and then it has no base type, or this one
  pub top_base : (i : ℕ) → is_top raw i ≡ true → base_in raw i ≡ None
  top_base i is = by (base_in raw i) is
    where
      by : (found : Option ℕ) → is_none found ≡ true → found ≡ None
      by None is = refl
      by (Some j) is = absurd cc

  pub base_is : (i j : ℕ) → is_base raw i j ≡ true → base_in raw j ≡ Some i
  base_is i j is = by (base_in raw j) is
    where
      by : (found : Option ℕ) → option_map_or (λ base. base == i) found false ≡ true → found ≡ Some i
      by None is = absurd cc
      by (Some k) is = ap Some ((Decides-eqb k i).0 is)
