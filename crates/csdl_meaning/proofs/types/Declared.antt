-- The declared properties of all types: which of them are those of one type, and where they stand.
use Rattle.std.proofs.Common.{◌≡◌, ◌≢◌, ◌==◌, ℕ, zero, suc, ◌+◌, ◌<◌, Bool, List, [], ◌∷◌, ◌++◌, append-nil, length, map, filter, take, slice_get, sum_by, Some, refl, sym, ap, subst, ◌∙◌, arith}
use Rattle.std.specs.List.{enumerate_from, flat_map}
use Rattle.std.specs.Option.{option_map_or}
use Rattle.std.proofs.lemmas.Bool.{false_from_ne_true}
use Rattle.std.proofs.lemmas.Bool.Decides.{Decides-eqb}
use Rattle.std.proofs.lemmas.List.{length-map}
use Rattle.std.proofs.lemmas.List.Concat.{flat_map-cons}
use Rattle.std.proofs.lemmas.List.Elements.{filter-append}
use Rattle.std.proofs.lemmas.List.Sums.{sum_by-cons}
use Rattle.emc_base.specs.Lists.{At}
use Rattle.round_trip.specs.Words.{Prop}
use Rattle.csdl_names.specs.declared.csdl_lists.raw.RawModel.{RawModel}
use Rattle.csdl_names.specs.declared.csdl_lists.raw.RawProp.{RawProp}
use Rattle.csdl_names.specs.declared.csdl_lists.raw.RawType.{RawType}
use Rattle.csdl_meaning.specs.Meaning.{prop_of}
use Rattle.emc_base.proofs.Joined.{at_left, at_map, at_right, enumerate-append, filter-drops, filter-keeps}

module _ (raw : RawModel) where
  -- the properties of these types, the first of which has this number
  abbrev pub props_from : ℕ → List RawType → List Prop
  props_from s types = flat_map (λ place. map (prop_of raw place.0) place.1.props) (enumerate_from s types)

  -- a numbered property is one of this type
  abbrev pub is_owned : ℕ → ℕ × Prop → Bool
  is_owned i entry = entry.1.owner.index == i

  -- the properties of one type, numbered, by the type they are of
  owned_here : (n i : ℕ) (props : List RawProp) → filter (is_owned i) (enumerate_from n (map (prop_of raw i) props)) ≡ enumerate_from n (map (prop_of raw i) props)
  owned_here n i [] = refl
  owned_here n i (prop ∷ props) =
      filter-keeps (is_owned i) (n, prop_of raw i prop) (enumerate_from (n + 1) (map (prop_of raw i) props)) ((Decides-eqb i i).1 refl)
      ∙ ap (λ entries. (n, prop_of raw i prop) ∷ entries) (owned_here (n + 1) i props)

  -- and those of another
  owned_elsewhere : (n s i : ℕ) (props : List RawProp) → s ≢ i → filter (is_owned i) (enumerate_from n (map (prop_of raw s) props)) ≡ []
  owned_elsewhere n s i [] other = refl
  owned_elsewhere n s i (prop ∷ props) other =
      filter-drops (is_owned i) (n, prop_of raw s prop) (enumerate_from (n + 1) (map (prop_of raw s) props)) (false_from_ne_true (s == i) (λ same. other ((Decides-eqb s i).0 same)))
      ∙ owned_elsewhere (n + 1) s i props other

  -- the properties of one type, and then those of the later ones
  split : (n m s i : ℕ) (type : RawType) (types : List RawType) → n + length type.props ≡ m → filter (is_owned i) (enumerate_from n (props_from s (type ∷ types)))
      ≡ filter (is_owned i) (enumerate_from n (map (prop_of raw s) type.props)) ++ filter (is_owned i) (enumerate_from m (props_from (s + 1) types))
  split n m s i type types same =
      ap (filter (is_owned i)) (ap (enumerate_from n) (flat_map-cons (λ (place : ℕ × RawType). map (prop_of raw place.0) place.1.props) (s, type) (enumerate_from (s + 1) types))
      ∙ enumerate-append n m (map (prop_of raw s) type.props) (props_from (s + 1) types) (let len : length (map (prop_of raw s) type.props) ≡ length type.props = length-map type.props (prop_of raw s) in omega arith))
      ∙ filter-append (is_owned i) (enumerate_from n (map (prop_of raw s) type.props)) (enumerate_from m (props_from (s + 1) types))

  -- no later type owns a property of an earlier one
  owned_later : (n s i : ℕ) (types : List RawType) → i < s → filter (is_owned i) (enumerate_from n (props_from s types)) ≡ []
  owned_later n s i [] before = refl
  owned_later n s i (type ∷ types) before =
      split n (n + length type.props) s i type types refl
      ∙ (λ k. owned_elsewhere n s i type.props (λ same. let w : s ≡ i = same in omega arith) k ++ owned_later (n + length type.props) (s + 1) i types (omega arith) k)

  -- the properties that one type owns, numbered
  pub owned : (n s k i m : ℕ) (types : List RawType) → s + k ≡ i → n + sum_by (λ type. length type.props) (take k types) ≡ m
      → filter (is_owned i) (enumerate_from n (props_from s types)) ≡ enumerate_from m (map (prop_of raw i) (option_map_or (λ type. type.props) (slice_get types k) []))
  owned n s k i m [] place before = refl
  owned n s zero i m (type ∷ types) place before =
      let owner : s ≡ i = omega arith in
      let number : n ≡ m = omega arith in
      let P : ℕ → Type 0 = λ o. filter (is_owned o) (enumerate_from n (props_from s (type ∷ types))) ≡ enumerate_from m (map (prop_of raw o) type.props) in
      subst P owner (split n (n + length type.props) s s type types refl
      ∙ (λ j. owned_here n s type.props j ++ owned_later (n + length type.props) (s + 1) s types (omega arith) j)
      ∙ append-nil (enumerate_from n (map (prop_of raw s) type.props))
      ∙ (λ j. enumerate_from (number j) (map (prop_of raw s) type.props)))
  owned n s (suc k) i m (type ∷ types) place before =
      split n (n + length type.props) s i type types refl
      ∙ (λ j. owned_elsewhere n s i type.props (λ same. let w : s ≡ i = same in omega arith) j ++ owned (n + length type.props) (s + 1) k i m types (omega arith)
      (let more : sum_by (λ t. length t.props) (type ∷ take k types) ≡ length type.props + sum_by (λ t. length t.props) (take k types) = sum_by-cons (λ (t : RawType). length t.props) type (take k types) in omega (arith, more, before)) j)

  -- a property of the first of these types, and one of the others
  in_first : (s m i : ℕ) (type : RawType) (types : List RawType) (prop : RawProp) → At (map (prop_of raw s) type.props) m (prop_of raw i prop) → At (props_from s (type ∷ types)) m (prop_of raw i prop)
  in_first s m i type types prop here =
      let P : List Prop → Type 0 = λ props. At props m (prop_of raw i prop) in
      subst P (sym (flat_map-cons (λ (place : ℕ × RawType). map (prop_of raw place.0) place.1.props) (s, type) (enumerate_from (s + 1) types)))
      (at_left (map (prop_of raw s) type.props) (props_from (s + 1) types) m (prop_of raw i prop) here)

  in_later : (s n m i : ℕ) (type : RawType) (types : List RawType) (prop : RawProp) → length type.props + n ≡ m → At (props_from (s + 1) types) n (prop_of raw i prop)
      → At (props_from s (type ∷ types)) m (prop_of raw i prop)
  in_later s n m i type types prop same here =
      let P : List Prop → Type 0 = λ props. At props m (prop_of raw i prop) in
      let len : length (map (prop_of raw s) type.props) ≡ length type.props = length-map type.props (prop_of raw s) in
      subst P (sym (flat_map-cons (λ (place : ℕ × RawType). map (prop_of raw place.0) place.1.props) (s, type) (enumerate_from (s + 1) types)))
      (at_right (map (prop_of raw s) type.props) (props_from (s + 1) types) n m (prop_of raw i prop) (omega (arith, len, same)) here)

  -- a property's place among those of all types
  pub declared_place : (s k i a j m : ℕ) (types : List RawType) (prop : RawProp) → s + k ≡ i → sum_by (λ type. length type.props) (take k types) ≡ a → a + j ≡ m
      → At (option_map_or (λ type. type.props) (slice_get types k) []) j prop → At (props_from s types) m (prop_of raw i prop)
  declared_place s k i a j m [] prop place before at here = absurd cc
  declared_place s zero i a j m (type ∷ types) prop place before at here =
      let owner : s ≡ i = omega arith in
      let number : m ≡ j = omega arith in
      in_first s m i type types prop (ap (slice_get (map (prop_of raw s) type.props)) number ∙ at_map (prop_of raw s) type.props j prop here ∙ ap (λ o. Some (prop_of raw o prop)) owner)
  declared_place s (suc k) i a j m (type ∷ types) prop place before at here =
      let rest : ℕ = sum_by (λ type. length type.props) (take k types) in
      let more : sum_by (λ t. length t.props) (type ∷ take k types) ≡ length type.props + rest = sum_by-cons (λ (t : RawType). length t.props) type (take k types) in
      in_later s (rest + j) m i type types prop (omega (arith, more, before, at))
      (declared_place (s + 1) k i rest j (rest + j) types prop (omega arith) refl refl here)
