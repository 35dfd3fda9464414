-- Whether some of the pairs of a fragment match the properties of a key with the columns of a primary key, one for one.
-- Source: the usual words for matchings; that a key is written whole to a primary key is this project's choice.
use Rattle.std.specs.Prelude.{List, All, Contains, map}
use Rattle.emc_base.specs.Lists.{HoldsEachOnce}
use Rattle.edm_types.specs.Types.{PropId, ColId}
use Rattle.edm_types.specs.declared.mapping.Pair.{Pair}

-- some of the pairs name each property of the key once and no other, and each column of the primary key once and no other
pub record Matches (key : List PropId) (cols : List ColId) (pairs : List Pair) : Type 0 where
  pub chosen : List Pair
  pub among : All (Contains pairs) chosen
  pub props : HoldsEachOnce key (map (λ pair. pair.prop) chosen)
  pub columns : HoldsEachOnce cols (map (λ pair. pair.col) chosen)
