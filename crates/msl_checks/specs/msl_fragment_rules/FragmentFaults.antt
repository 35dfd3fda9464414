-- The rules of a fragment, by what the names of its properties stand for.
-- Source: MSL version 3, MappingFragment, ScalarProperty and Condition. That the primary key is written whole, what a Value may be, and that no
-- condition is on a key, is the profile's choice.
use Rattle.std.specs.Prelude.{◌⊎◌, ℕ, List, [], codes, Option}
use Rattle.layouts.specs.declared.fault.Fault.{Fault}
use Rattle.layouts.specs.declared.rule.Rule.TheVariants as rule
use Rattle.layouts.specs.rule_places.Places.{IsAt, InList}
use Rattle.round_trip.specs.Words.{PropId, Schema, key_columns}
use Rattle.round_trip.specs.soundness.Lookups.{set_key}
use Rattle.table_owners.specs.key_matching.Matchings.{Matches}
use Rattle.msl_rules.specs.declared.msl_lists.raw.RawPair.{RawPair}
use Rattle.msl_rules.specs.declared.msl_lists.raw.RawFragment.{RawFragment}
use Rattle.msl_rules.specs.Found.{set_numbered, table_numbered, pairs_in}
use Rattle.msl_rules.specs.FragmentRules.{IsUnfitFault, IsCondFault, IsEnumFault, IsWrittenBefore}

-- in a schema, by what a name of a property stands for, and for the set and the table at these places
module _ (schema : Schema) (named : List ℕ → Option PropId) (s t : ℕ) where
  -- V30: no pairs match the set's key with the primary key
  abbrev pub LeavesKey : List RawPair → Type 0
  LeavesKey pairs = ¬ Matches (set_key schema.model (set_numbered s)) (key_columns schema.store (table_numbered t)) (pairs_in schema.model schema.store named t pairs)

  -- V29, V30, V33 to V35, V38 and V39
  abbrev pub IsBroken : RawFragment → Fault → Type 0
  IsBroken fragment fault =
      InList (codes "ScalarProperty") (IsUnfitFault schema named t) fragment.pairs fault
      ⊎ (LeavesKey fragment.pairs × IsAt rule.WritesKey [] fault)
      ⊎ InList (codes "Condition") (IsCondFault schema named t (set_key schema.model (set_numbered s))) fragment.conds fault
      ⊎ InList (codes "ScalarProperty") (IsEnumFault schema named t) fragment.pairs fault
      ⊎ InList (codes "ScalarProperty") (λ k pair inside. IsWrittenBefore fragment.pairs k pair × IsAt rule.WrittenOnce [] inside) fragment.pairs fault
