-- Two parts of V7 in the mapping of an association set: what is looked up in the association set, and what in the table.
-- Source: MSL version 3, AssociationSetMapping, EndProperty and Condition, in the profile of this project.
use Rattle.std.specs.Prelude.{◌⊎◌, ℕ, List, codes}
use Rattle.emc_base.specs.Lists.{At}
use Rattle.layouts.specs.declared.fault.Fault.{Fault}
use Rattle.layouts.specs.rule_places.Places.{InList}
use Rattle.round_trip.specs.Words.{Assoc, EntityModel, StoreModel}
use Rattle.msl_rules.specs.declared.msl_lists.raw.RawEndMapping.{RawEndMapping}
use Rattle.msl_rules.specs.declared.msl_lists.raw.RawLinkMapping.{RawLinkMapping}
use Rattle.msl_rules.specs.NameRules.{IsUnresolvedEnd, LacksCondColumn, LacksEndColumns}

module _ (model : EntityModel) (store : StoreModel) where
  -- a role or a property of an end, in the association set at a place
  abbrev pub IsUnresolvedInEnds : List RawEndMapping → ℕ → Fault → Type 0
  IsUnresolvedInEnds ends a fault = (assoc : Assoc) × At model.assocs a assoc × InList (codes "EndProperty") (IsUnresolvedEnd model store assoc) ends fault

  -- a column of an end or of a condition, in the table at a place
  abbrev pub LacksLinkColumns : RawLinkMapping → ℕ → Fault → Type 0
  LacksLinkColumns link t fault =
      InList (codes "EndProperty") (LacksEndColumns model store t) link.ends fault
      ⊎ InList (codes "Condition") (LacksCondColumn store t) link.conds fault
