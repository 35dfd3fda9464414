-- Each type of a model stands in the forest of its base types, where no type is its own ancestor: the way down to it is the way up turned round.
use Rattle.std.proofs.Common.{◌≡◌, ◌==◌, ℕ, zero, suc, ◌<◌, Bool, true, false, List, length, map, filter, slice_get, All, Contains, MatchOption, Option, Some, None, option_map, refl, sym, ap, subst, ◌∙◌}
use Rattle.std.specs.Bool.{⊤}
use Rattle.std.specs.List.{enumerate_from}
use Rattle.std.specs.Option.{is_none, option_and_then, option_map_or}
use Rattle.std.proofs.lemmas.Bool.Decides.{Decides-eqb}
use Rattle.std.proofs.lemmas.List.Elements.{All-contains}
use Rattle.std.proofs.lemmas.Option.{MatchOption-at_some, none-some, same_Some, slice_get_within}
use Rattle.emc_base.specs.Lists.{At, places_of}
use Rattle.emc_base.proofs.Lists.{item_at}
use Rattle.emc_base.proofs.Mapped.{contains_at, contains_enumerated, contains_filter, contains_map}
use Rattle.round_trip.specs.Words.{EntityModel, EntityType, TypeId, TypeNode, HasBase}
use Rattle.edm_types.specs.IsA.{same, base, chain}
use Rattle.edm_types.specs.Forest.{HoldsEachType, IsForest, IsNodeOf, below, node_type, nodes_below, root_types, top, type_numbered, types_based_on}
use Rattle.round_trip.specs.soundness.models.Inheritance.{HasNoCircle}
use Rattle.round_trip.specs.soundness.Lookups.{IsAncestor as IsAbove}
use Rattle.round_trip.specs.soundness.models.ModelIds.{IsTypeId}
use Rattle.round_trip.specs.soundness.models.Models.{IsSoundModel}
use Rattle.graphs.specs.base_chains.Chains.{IsAncestor, direct, further, StaysWithin}
use Rattle.graphs.proofs.base_chains.Chains.{Ends, ends}
use Rattle.emc_base.proofs.Members.{in_map}

-- what stands in a list of images is the image of a member
in_images : {X Y : Type 0} (f : X → Y) (xs : List X) (ys : List Y) (y : Y) → map f xs ≡ ys → Contains ys y → (x : X) × Contains xs x × (f x ≡ y)
in_images {X} {Y} f xs ys y alike has = in_map f xs y (let P : List Y → Type 0 = λ list. Contains list y in subst P (sym alike) has)

-- the place of an item that passes the test
in_places : {X : Type 0} (test : X → Bool) (xs : List X) (i : ℕ) (x : X) → At xs i x → test x ≡ true → Contains (places_of test xs) i
in_places {X} test xs i x here passes = contains_map (λ (entry : ℕ × X). entry.0) (filter (λ (entry : ℕ × X). test entry.1) (enumerate_from 0 xs)) (i, x)
    (contains_filter (λ (entry : ℕ × X). test entry.1) (enumerate_from 0 xs) (i, x) (contains_enumerated xs i x here) passes)

module _ (model : EntityModel) where
  -- the place of the base type of the type at a place
  abbrev pub base_place : ℕ → Option ℕ
  base_place i = option_and_then (λ (type : EntityType). option_map (λ (above : TypeId). above.index) type.base) (slice_get model.types i)

  -- what a place says of a base is what its type says
  at_type : (i : ℕ) (type : EntityType) → At model.types i type → base_place i ≡ option_map (λ (above : TypeId). above.index) type.base
  at_type i type here = ap (option_and_then (λ (type : EntityType). option_map (λ (above : TypeId). above.index) type.base)) here

  -- and what has a place is a base type
  pub has_base : (i j : ℕ) → base_place i ≡ Some j → HasBase model (type_numbered i) (type_numbered j)
  has_base i j is = by (slice_get model.types i) refl is
    where
      named : (found : Option TypeId) → option_map (λ (above : TypeId). above.index) found ≡ Some j → found ≡ Some (type_numbered j)
      named None is = absurd (none-some j is)
      named (Some above) is = ap (λ k. Some (type_numbered k)) (same_Some above.index j is)

      by : (found : Option EntityType) → slice_get model.types i ≡ found
          → option_and_then (λ (type : EntityType). option_map (λ (above : TypeId). above.index) type.base) found ≡ Some j → HasBase model (type_numbered i) (type_numbered j)
      by None here is = absurd (none-some j is)
      by (Some type) here is = (type, here, named type.base is)

  no_base : (i : ℕ) (type : EntityType) → At model.types i type → base_place i ≡ None → is_none type.base ≡ true
  no_base i type here none = by type.base (sym (at_type i type here) ∙ none)
    where
      by : (found : Option TypeId) → option_map (λ (above : TypeId). above.index) found ≡ None → is_none found ≡ true
      by None is = refl
      by (Some above) is = absurd (none-some above.index (sym is))

  within : All (λ type. MatchOption type.base ⊤ (IsTypeId model)) model.types → StaysWithin base_place (length model.types)
  within ids i j is =
      let has = has_base i j is in
      let P : Option TypeId → Type 0 = λ found. MatchOption found ⊤ (IsTypeId model) in
      subst P has.2 (All-contains (λ (type : EntityType). P type.base) model.types has.0 ids (contains_at model.types i has.0 has.1))

  -- what stands above a place is an ancestor of its type
  pub derived : (i j : ℕ) → IsAncestor base_place i j → IsAbove model (type_numbered j) (type_numbered i)
  derived i j (direct _ _ is) = (type_numbered j, has_base i j is, same (type_numbered j))
  derived i j (further _ k _ is rest) =
      let up = derived k j rest in
      (type_numbered k, has_base i k is, chain (type_numbered k) up.0 (type_numbered j) (base (type_numbered k) up.0 up.1) up.2)

  module _ (trees : List TypeNode) (forest : IsForest model trees) where
    -- the type has a node
    abbrev HasNode : ℕ → Type 0
    HasNode i = (node : TypeNode) × IsNodeOf trees node × (node_type node ≡ type_numbered i)

    root_node : (i : ℕ) (type : EntityType) → At model.types i type → base_place i ≡ None → HasNode i
    root_node i type here none =
        let found = in_images node_type trees (root_types model) (type_numbered i) forest.roots
        (contains_map type_numbered (places_of (λ type. is_none type.base) model.types) i (in_places (λ type. is_none type.base) model.types i type here (no_base i type here none))) in
        (found.0, top found.0 found.1, found.2)

    node_under : (i j : ℕ) → base_place i ≡ Some j → HasNode j → HasNode i
    node_under i j is up =
        let has = has_base i j is in
        let test : EntityType → Bool = λ type. option_map_or (λ above. above.index == j) type.base false in
        let children = (forest.nodes up.0 up.1).children ∙ ap (types_based_on model) up.2 in
        let passes = ap (λ (found : Option TypeId). option_map_or (λ above. above.index == j) found false) has.2 ∙ (Decides-eqb j j).1 refl in
        let found = in_images node_type (nodes_below up.0) (types_based_on model (type_numbered j)) (type_numbered i) children
        (contains_map type_numbered (places_of test model.types) i (in_places test model.types i has.0 has.1 passes)) in
        (found.0, below up.0 found.0 up.1 found.1, found.2)

    node_at : StaysWithin base_place (length model.types) → (n i : ℕ) → Ends base_place n i → i < length model.types → HasNode i
    node_at inner zero i end inside = absurd end
    node_at inner (suc n) i end inside =
        by (base_place i) refl (λ j is. node_at inner n j (MatchOption-at_some ⊤ (λ k. Ends base_place n k) j is end) (inner i j is))
      where
        by : (found : Option ℕ) → base_place i ≡ found → ((j : ℕ) → base_place i ≡ Some j → HasNode j) → HasNode i
        by None is up = let here = item_at model.types i inside in root_node i here.0 here.1 is
        by (Some j) is up = node_under i j is (up j is)

    -- where no type is its own ancestor, and base types are in range, each type has one
    pub holds_each : HasNoCircle model → All (λ type. MatchOption type.base ⊤ (IsTypeId model)) model.types → HoldsEachType model trees
    holds_each never ids t type here =
        let inner = within ids in
        let inside = slice_get_within model.types t.index type here in
        node_at inner (length model.types) t.index (ends base_place (λ i above. never (type_numbered i) (derived i i above)) (length model.types) inner t.index inside) inside

pub sound_holds : (model : EntityModel) → IsSoundModel model → HoldsEachType model model.forest
sound_holds model sound = holds_each model model.forest sound.forest sound.bases sound.ids.bases
