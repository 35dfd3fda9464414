-- The types that are based on each, with one type more.
use Rattle.std.proofs.Common.{◌≡◌, ◌≢◌, ◌⊎◌, inl, inr, ◌==◌, ℕ, ◌+◌, ◌<◌, List, [], ◌∷◌, ◌++◌, All, append-nil, length, filter, replicate, set, length-set, Bool, true, false, Option, Some, None, refl, sym, ap, subst, ◌∙◌}
use Rattle.std.specs.List.{range_with_len}
use Rattle.std.specs.Option.{option_map_or}
use Rattle.std.proofs.lemmas.Bool.{false_from_ne_true}
use Rattle.std.proofs.lemmas.Bool.Decides.{Decides-eqb}
use Rattle.std.proofs.lemmas.List.{get_or-replicate, length-replicate}
use Rattle.std.proofs.lemmas.List.Elements.{All-filter}
use Rattle.std.proofs.lemmas.Option.{get_or_from_slice_get, slice_get-get_or, slice_get_within}
use Rattle.emc_base.specs.Lists.{At}
use Rattle.csdl_names.specs.declared.csdl_lists.raw.RawModel.{RawModel}
use Rattle.csdl_meaning.specs.Meaning.{base_in, is_base, type_places}
use Rattle.csdl_meaning.specs.csdl_making.Making.{AreChildren, list_at}
use Rattle.emc_base.proofs.Turns.{at_set, kept_more, range_inside}

module _ (raw : RawModel) where
  -- there is a list for each type, and each holds the types that are based on one, of the first so many
  pub record AreBelow (n : ℕ) (children : List (List ℕ)) : Type 0 where
    pub alike : length children ≡ length raw.types
    pub each : (i : ℕ) (below : List ℕ) → At children i below → below ≡ filter (is_base raw i) (range_with_len 0 n)

  -- before the first type, and after the last one
  pub none_below : (children : List (List ℕ)) → children ≡ replicate (length raw.types) [] → AreBelow 0 children
  none_below children are = record {
    alike = ap (λ (lists : List (List ℕ)). length lists) are ∙ length-replicate (length raw.types) [];
    each = λ i below at.
        let P : List (List ℕ) → Type 0 = λ lists. At lists i below in
        let there : At (replicate (length raw.types) []) i below = subst P are at in
        sym (get_or_from_slice_get (replicate (length raw.types) []) i below [] there) ∙ get_or-replicate (length raw.types) i [] [] (inside i below there);
  }
    where
      inside : (i : ℕ) (below : List ℕ) → At (replicate (length raw.types) []) i below → i < length raw.types
      inside i below at =
          let P : ℕ → Type 0 = λ n. i < n in
          subst P (length-replicate (length raw.types) []) (slice_get_within (replicate (length raw.types) []) i below at)

  -- a type that is based on the one, and one that isn't
  below_more : (n i : ℕ) → is_base raw i n ≡ true → filter (is_base raw i) (range_with_len 0 n) ++ n ∷ [] ≡ filter (is_base raw i) (range_with_len 0 (n + 1))
  below_more n i is = kept_more (is_base raw i) n true (sym is)

  below_same : (n i : ℕ) → is_base raw i n ≡ false → filter (is_base raw i) (range_with_len 0 n) ≡ filter (is_base raw i) (range_with_len 0 (n + 1))
  below_same n i is = sym (append-nil (filter (is_base raw i) (range_with_len 0 n))) ∙ kept_more (is_base raw i) n false (sym is)

  based_on : (n i : ℕ) (base : Option ℕ) → base_in raw n ≡ base → is_base raw i n ≡ option_map_or (λ j. j == i) base false
  based_on n i base is = ap (λ (found : Option ℕ). option_map_or (λ j. j == i) found false) is

  -- one type more
  list_more : (n : ℕ) (children : List (List ℕ)) (base : Option ℕ) → base_in raw n ≡ base → AreBelow n children → (i : ℕ) (below : List ℕ)
      → At (option_map_or (λ i. set children i (list_at children i ++ n ∷ [])) base children) i below → below ≡ filter (is_base raw i) (range_with_len 0 (n + 1))
  list_more n children None is are i below at = are.each i below at ∙ below_same n i (based_on n i None is)
  list_more n children (Some j) is are i below at = by (at_set children j (list_at children j ++ n ∷ []) i below at)
    where
      by : ((j ≡ i) × (j < length children) × (list_at children j ++ n ∷ [] ≡ below)) ⊎ ((j ≢ i) × At children i below) → below ≡ filter (is_base raw i) (range_with_len 0 (n + 1))
      by (inl here) =
          let P : ℕ → Type 0 = λ x. list_at children j ≡ filter (is_base raw x) (range_with_len 0 n) in
          let old : list_at children j ≡ filter (is_base raw i) (range_with_len 0 n) = subst P here.0 (are.each j (list_at children j) (slice_get-get_or children j [] here.1)) in
          sym here.2 ∙ ap (λ xs. xs ++ n ∷ []) old ∙ below_more n i (based_on n i (Some j) is ∙ (Decides-eqb j i).1 here.0)
      by (inr other) = are.each i below other.1 ∙ below_same n i (based_on n i (Some j) is ∙ false_from_ne_true (j == i) (λ same. other.0 ((Decides-eqb j i).0 same)))

  long_more : (n : ℕ) (children : List (List ℕ)) (base : Option ℕ) → length (option_map_or (λ i. set children i (list_at children i ++ n ∷ [])) base children) ≡ length children
  long_more n children None = refl
  long_more n children (Some j) = length-set children j (list_at children j ++ n ∷ [])

  pub children_more : (n : ℕ) (children : List (List ℕ)) (base : Option ℕ) → base_in raw n ≡ base → AreBelow n children
      → AreBelow (n + 1) (option_map_or (λ i. set children i (list_at children i ++ n ∷ [])) base children)
  children_more n children base is are = record { alike = long_more n children base ∙ are.alike; each = list_more n children base is are }

  pub all_below : (n : ℕ) (children : List (List ℕ)) → n ≡ length raw.types → AreBelow n children → AreChildren raw children
  all_below n children all are = record { alike = are.alike; each = λ i below at. are.each i below at ∙ ap (λ count. filter (is_base raw i) (range_with_len 0 count)) all }

  -- the types that pass a test are those of the document
  pub types_inside : (test : ℕ → Bool) → All (λ i. i < length raw.types) (type_places raw test)
  types_inside test = All-filter test (λ i. i < length raw.types) (range_with_len 0 (length raw.types)) (range_inside (length raw.types))
