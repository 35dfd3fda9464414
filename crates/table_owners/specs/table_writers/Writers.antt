-- What writes a table, in the order of the document: where the key of an owner is paired otherwise than before, and where a table has a second owner.
-- Source: this project's choice of who may write a table, over MSL version 3, MappingFragment and AssociationSetMapping.
use Rattle.std.specs.Prelude.{◌≡◌, ◌≢◌, ◌⊎◌, ℕ, ◌<◌, List, All, Any, Contains}
use Rattle.emc_base.specs.Lists.{At}
use Rattle.edm_types.specs.declared.mapping.Pair.{Pair}
use Rattle.table_owners.specs.declared.table_writers.writer.Writer.{Writer}

-- each of the pairs stands among the others
abbrev pub AreAmong : List Pair → List Pair → Type 0
AreAmong pairs others = All (Contains others) pairs

-- one of the pairs doesn't stand among the others
abbrev pub LacksSome : List Pair → List Pair → Type 0
LacksSome pairs others = Any (λ pair. ¬ Contains others pair) pairs

-- two lists hold the same pairs
abbrev pub HoldSame : List Pair → List Pair → Type 0
HoldSame one other = AreAmong one other × AreAmong other one

-- two lists don't hold the same pairs: one of them has a pair that isn't in the other
abbrev pub IsOtherPairing : List Pair → List Pair → Type 0
IsOtherPairing one other = LacksSome one other ⊎ LacksSome other one

-- the writer at this place pairs the key otherwise than an earlier one of its table and owner
pub record PairsOtherwise (writers : List Writer) (k : ℕ) : Type 0 where
  pub i : ℕ
  pub one : Writer
  pub later : Writer
  pub before : i < k
  pub there : At writers i one
  pub here : At writers k later
  pub table : one.table ≡ later.table
  pub owner : one.owner ≡ later.owner
  pub other : IsOtherPairing one.key later.key

-- an earlier writer of its table has another owner
pub record HasOtherOwner (writers : List Writer) (k : ℕ) : Type 0 where
  pub i : ℕ
  pub one : Writer
  pub later : Writer
  pub before : i < k
  pub there : At writers i one
  pub here : At writers k later
  pub table : one.table ≡ later.table
  pub other : one.owner ≢ later.owner
