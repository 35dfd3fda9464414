-- What may be wrong with a condition, rule by rule, by what it is on.
use Rattle.std.specs.Prelude.{◌⊎◌, List, [], ◌∷◌, codes, MatchOption, Option}
use Rattle.std.specs.Option.{option_and_then, option_map}
use Rattle.json_form.specs.declared.pointer.Step.TheVariants.{Member}
use Rattle.layouts.specs.declared.fault.Fault.{Fault}
use Rattle.layouts.specs.declared.rule.Rule.TheVariants.{ConditionForm, ConditionValue, ForeignValue, KeyCondition}
use Rattle.layouts.specs.rule_places.Places.{IsAt}
use Rattle.round_trip.specs.Words.{Cond, CondOn, PropId}
use Rattle.round_trip.specs.soundness.mappings.Joined.{ComparesNoBarred}
use Rattle.msl_rules.specs.declared.msl_lists.raw.RawCond.{RawCond}
use Rattle.msl_rules.specs.Found.{test_of}
use Rattle.msl_rules.specs.FragmentRules.{IsIllFormed, IsOfKey}
use Rattle.msl_checks.specs.declared.msl_written.writing.Writing.{Writing}
use Rattle.msl_checks.specs.msl_written.Within.{GivesNoValue, kind_in, named_in, schema_in, table_in}

module _ (writing : Writing) (key : List PropId) (cond : RawCond) where
  -- V33
  abbrev pub IsForm : Fault → Type 0
  IsForm fault = IsIllFormed cond × IsAt ConditionForm [] fault

  -- V34, of a condition that is on this
  abbrev pub IsValue : Option CondOn → Fault → Type 0
  IsValue known fault = MatchOption cond.value ⊥ (λ text. MatchOption known ⊥ (GivesNoValue writing text)) × IsAt ConditionValue (Member (codes "Value") ∷ []) fault

  -- V35
  abbrev pub IsKey : Option CondOn → Fault → Type 0
  IsKey known fault = MatchOption known ⊥ (IsOfKey (schema_in writing.between) (named_in writing) writing.table key) × IsAt KeyCondition [] fault

  -- V38
  abbrev pub IsForeign : Option CondOn → Fault → Type 0
  IsForeign known fault =
      MatchOption (option_and_then (λ what. option_map (λ test. record { on = what; test = test }) (test_of (kind_in writing what) cond.value cond.is_null)) known) ⊥
      (λ (meant : Cond). ¬ ComparesNoBarred (schema_in writing.between) (table_in writing) meant) × IsAt ForeignValue [] fault

  -- these
  abbrev pub IsOn : Option CondOn → Fault → Type 0
  IsOn known fault = IsValue known fault ⊎ IsKey known fault ⊎ IsForeign known fault
