-- Items with keys, grouped by their keys in the order of these.
-- Source: this project's.
use Rattle.std.specs.Prelude.{◌≡◌, ◌≢◌, ◌++◌, List, [], ◌∷◌, map, All, AllPairs, Contains}
use Rattle.std.specs.Cmp.Lexicographic.{slice_cmp}
use Rattle.std.specs.declared.cmp.Ordering.TheVariants.{Less}
use Rattle.emc_base.specs.Order.{value_cmp}
use Rattle.edm_types.specs.Types.{Value}
use Rattle.groupings.specs.item_groups.Groups.{items_of}

-- the items of a key, in their order
abbrev pub with_key : {X : Type 0} → List (List Value × X) → List Value → List X
with_key keyed key = items_of (slice_cmp value_cmp) keyed key

-- groups of items by their keys: the keys rise, each has all its items, and there is one for each key that an item has, and for no other
pub record AreKeyGroups {X : Type 0} (keyed : List (List Value × X)) (groups : List (List Value × List X)) : Type 0 where
  pub rising : AllPairs (λ one later. slice_cmp value_cmp one.0 later.0 ≡ Less) groups
  pub items : All (λ group. group.1 ≡ with_key keyed group.0) groups
  pub some : All (λ group. group.1 ≢ []) groups
  pub all : All (λ one. Contains (map (λ group. group.0) groups) one.0) keyed

-- groups with an item more: in the last one where this has its key, and in one of its own behind them where it hasn't
pub data HasOneMore {X : Type 0} (groups : List (List Value × List X)) (key : List Value) (item : X) (more : List (List Value × List X)) : Type 0 where
  joined : (before : List (List Value × List X)) (items : List X) → groups ≡ before ++ (key, items) ∷ [] → more ≡ before ++ (key, items ++ item ∷ []) ∷ []
      → HasOneMore groups key item more
  started : ((before : List (List Value × List X)) (last : List Value × List X) → groups ≡ before ++ last ∷ [] → last.0 ≢ key) → more ≡ groups ++ (key, item ∷ []) ∷ []
      → HasOneMore groups key item more
