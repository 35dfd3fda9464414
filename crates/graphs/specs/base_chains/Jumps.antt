-- How deep types stand, and a type above each to jump to, by which it is told in few steps what stands above a type.
use Rattle.std.specs.Prelude.{◌≡◌, ◌⊎◌, ℕ, ◌<◌, ◌≤◌, List, length, slice_index, Option, None}
use Rattle.graphs.specs.base_chains.Chains.{IsAncestor, StaysWithin, chain}

-- of two places, the second stands no deeper
abbrev pub IsNoDeeper : List ℕ → ℕ → ℕ → Type 0
IsNoDeeper depths from to = (from < length depths) × (to < length depths) × (slice_index depths to ≤ slice_index depths from)

module _ (base : ℕ → Option ℕ) where
  -- the second place stands above the first, or is the first, which has no base
  abbrev pub IsJump : ℕ → ℕ → Type 0
  IsJump i j = IsAncestor base i j ⊎ ((i ≡ j) × (base i ≡ None))

  -- how many places stand in a chain: a root is at 1
  abbrev pub depth : ℕ → ℕ → ℕ
  depth count i = length (chain base count i)

  -- no base leads out of so many places or back
  pub record IsForest (count : ℕ) : Type 0 where
    pub within : StaysWithin base count
    pub rooted : (i : ℕ) → ¬ IsAncestor base i i

  -- the depths of so many places are known
  pub record KnowsDepths (count : ℕ) (depths : List ℕ) : Type 0 where
    pub size : length depths ≡ count
    pub deep : (i : ℕ) → i < count → slice_index depths i ≡ depth count i

  -- and for each a place to jump to
  pub record KnowsJumps (count : ℕ) (depths jumps : List ℕ) : Type 0 where
    pub forest : IsForest count
    pub depths_known : KnowsDepths count depths
    pub size : length jumps ≡ count
    pub up : (i : ℕ) → i < count → IsJump i (slice_index jumps i)
