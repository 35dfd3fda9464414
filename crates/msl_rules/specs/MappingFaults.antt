-- The rules that an MSL document breaks, and where.
-- Source: MSL version 3, in the profile of this project.
use Rattle.std.specs.Prelude.{◌⊎◌}
use Rattle.serde_json.specs.Data.{Data}
use Rattle.layouts.specs.declared.fault.Fault.{Fault}
use Rattle.layouts.specs.declared.form.Form.TheVariants.{Object}
use Rattle.layouts.specs.declared.form.Shape.TheVariants as shape
use Rattle.layouts.specs.Forms.{IsFaultOf}
use Rattle.round_trip.specs.Words.{EntityModel, StoreModel}
use Rattle.msl_rules.specs.declared.msl_lists.raw.RawMapping.{RawMapping}
use Rattle.msl_rules.specs.msl_lists.Raw.{raw_mapping}
use Rattle.msl_rules.specs.MappingMeaning.{schema_in}
use Rattle.msl_rules.specs.NameRules.{IsMappedTwice, IsUnresolvedName, HasOtherContainer, BreaksTypeNameRules}
use Rattle.msl_rules.specs.FragmentRules.{IsInFragments}
use Rattle.msl_rules.specs.LinkRules.{IsInLinks}
use Rattle.msl_rules.specs.OwnerRules.{BreaksOwnerRules}

module _ (model : EntityModel) (store : StoreModel) where
  -- V29 to V40: what a fragment or an association's mapping writes isn't well-formed
  abbrev pub BreaksMappingRules : RawMapping → Fault → Type 0
  BreaksMappingRules raw fault = IsInFragments (schema_in model store raw) raw fault ⊎ IsInLinks (schema_in model store raw) raw fault ⊎ BreaksOwnerRules model store raw fault

  -- V26 to V40: the same, or a container's name, or the types or the properties of a fragment aren't what they should be
  abbrev pub IsFaultAfterNames : RawMapping → Fault → Type 0
  IsFaultAfterNames raw fault = HasOtherContainer model store raw fault ⊎ BreaksTypeNameRules model raw fault ⊎ BreaksMappingRules raw fault

  -- V6, V7 and V26 to V40: what is written breaks the rule at the place
  abbrev pub IsMappingListFault : RawMapping → Fault → Type 0
  IsMappingListFault raw fault = IsMappedTwice raw fault ⊎ IsUnresolvedName model store raw fault ⊎ IsFaultAfterNames raw fault

  -- the document breaks the rule at the place: one of its layout, or one on what is written in it
  abbrev pub IsMappingFault : Data → Fault → Type 0
  IsMappingFault d fault = IsFaultOf (Object shape.Mapping) d fault ⊎ IsMappingListFault (raw_mapping d) fault
