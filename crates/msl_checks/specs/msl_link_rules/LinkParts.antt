-- What is said of an association's mapping where its association set is found, and the parts of what is said where its table is found too.
-- Source: MSL version 3, AssociationSetMapping, EndProperty and Condition, in the profile of this project.
use Rattle.std.specs.Prelude.{ℕ, List, [], codes, MatchOption}
use Rattle.emc_base.specs.Lists.{At}
use Rattle.layouts.specs.declared.fault.Fault.{Fault}
use Rattle.layouts.specs.declared.rule.Rule.TheVariants.{WrittenOnce}
use Rattle.layouts.specs.rule_places.Places.{IsAt, InList}
use Rattle.round_trip.specs.Words.{Assoc, Schema}
use Rattle.schema_names.specs.SchemaNames.{association_set_named}
use Rattle.msl_rules.specs.declared.msl_lists.raw.RawEndMapping.{RawEndMapping}
use Rattle.msl_rules.specs.declared.msl_lists.raw.RawLinkMapping.{RawLinkMapping}
use Rattle.msl_rules.specs.LinkRules.{BreaksLinkRules, IsWrittenAgain}

-- V39 of the pairs of an end
abbrev pub WritesAgain : List RawEndMapping → ℕ → RawEndMapping → Fault → Type 0
WritesAgain ends e end = InList (codes "ScalarProperty") (λ k pair inside. IsWrittenAgain ends e end k pair × IsAt WrittenOnce [] inside) end.pairs

-- all but V40, in the association set at a place
abbrev pub BreaksRulesAt : Schema → RawLinkMapping → ℕ → Fault → Type 0
BreaksRulesAt schema link a fault = (assoc : Assoc) × At schema.model.assocs a assoc × BreaksLinkRules schema link a assoc fault

-- all but V40, where the association set is found
abbrev pub BreaksRulesOfSet : Schema → RawLinkMapping → Fault → Type 0
BreaksRulesOfSet schema link fault = MatchOption (association_set_named schema.model link.name) ⊥ (λ a. BreaksRulesAt schema link a fault)
