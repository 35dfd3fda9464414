-- The key that the type at the top above a type gives, by a list of such types.
use Rattle.std.proofs.Common.{◌≡◌, ℕ, zero, suc, ◌<◌, ◌≤◌, List, [], ◌∷◌, ◌++◌, ◌+◌, length, map, get_or, Some, None, slice_get, refl, sym, ap, subst, ◌∙◌, arith}
use Rattle.std.specs.List.{range_with_len}
use Rattle.std.specs.Option.{option_and_then, option_map_or}
use Rattle.std.proofs.lemmas.List.FromFn.{get_or-map-range_with_len, length-map-range_with_len}
use Rattle.std.proofs.lemmas.Option.{get_or_from_slice_get, none-some, slice_get-get_or, slice_get_within, slice_get_past}
use Rattle.graphs.specs.base_chains.Chains.{chain_upto, root}
use Rattle.csdl_names.specs.declared.csdl_lists.raw.RawModel.{RawModel}
use Rattle.csdl_names.specs.csdl_lists.References.{Names, base_of}
use Rattle.csdl_associations.specs.csdl_constraints.Sides.{root_key}

-- what a list of all that a function gives says at a place
module _ {X : Type 0} (f : ℕ → X) (count : ℕ) (xs : List X) (are : xs ≡ map f (range_with_len 0 count)) (i : ℕ) where
  long : length xs ≡ count
  long = ap length are ∙ length-map-range_with_len f 0 count

  pub listed : (x : X) → slice_get xs i ≡ Some x → x ≡ f i
  listed x here =
      let within : i < length xs = slice_get_within xs i x here in
      let inside : i < count = subst (λ (n : ℕ). i < n) long within in
      let same : 0 + i ≡ i = omega arith in
      sym (get_or_from_slice_get xs i x x here) ∙ ap (λ ys. get_or ys i x) are ∙ get_or-map-range_with_len f 0 count i i x inside same

  pub unlisted : slice_get xs i ≡ None → count ≤ i
  unlisted none = not_less (λ (inside : i < count).
      let within : i < length xs = subst (λ (n : ℕ). i < n) (sym long) inside in
      none-some (f i) (sym none ∙ slice_get-get_or xs i (f i) within ∙ ap Some (ap (λ ys. get_or ys i (f i)) are ∙ get_or-map-range_with_len f 0 count i i (f i) inside (omega arith))))
    where
      not_less : ¬ (i < count) → count ≤ i
      not_less never = omega arith

module _ (names : Names) (model : RawModel) where
  -- what is no type is its own root
  own_root : (n i : ℕ) → slice_get model.types i ≡ None → root (base_of names model) n i ≡ i
  own_root zero i none = refl
  own_root (suc n) i none =
      let base_none : base_of names model i ≡ None = ap (option_and_then (λ type. option_and_then names.type_named type.base)) none in
      (λ k. get_or (option_map_or (λ j. chain_upto (base_of names model) n j) (base_none k) [] ++ i ∷ []) 0 i)

  -- and gives no key
  pub no_root_key : (i : ℕ) → length model.types ≤ i → root_key names model i ≡ None
  no_root_key i past =
      let none : slice_get model.types i ≡ None = slice_get_past model.types i past in
      ap (option_and_then (λ type. type.key)) (ap (slice_get model.types) (own_root (length model.types) i none) ∙ none)
