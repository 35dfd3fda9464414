-- What is left to do once some columns are taken. Only for the proof.
use Rattle.std.specs.Prelude.{◌≡◌, ◌++◌, List, All, Contains, map}
use Rattle.emc_base.specs.Lists.{AreApart}
use Rattle.edm_types.specs.Types.{PropId, ColId}
use Rattle.edm_types.specs.declared.mapping.Pair.{Pair}

-- a pair is there, and its column isn't taken
abbrev pub MayTake : List Pair → List ColId → Pair → Type 0
MayTake pairs taken pair = Contains pairs pair × ¬ Contains taken pair.col

-- some of the pairs name these properties in their order, and columns that aren't taken, each once, so that no column is left
pub record Completes (props : List PropId) (cols taken : List ColId) (pairs : List Pair) : Type 0 where
  pub chosen : List Pair
  pub among : All (Contains pairs) chosen
  pub named : map (λ pair. pair.prop) chosen ≡ props
  pub inside : All (Contains cols) (map (λ pair. pair.col) chosen)
  pub free : All (λ col. ¬ Contains taken col) (map (λ pair. pair.col) chosen)
  pub once : AreApart (map (λ pair. pair.col) chosen)
  pub all : All (Contains (taken ++ map (λ pair. pair.col) chosen)) cols
