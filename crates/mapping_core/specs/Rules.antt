-- Which rules three documents break, which of them is told, and what the documents mean where they break none.
-- Source: CSDL, SSDL and MSL version 3. The rules are that each file is JSON, and those of its vocabulary.
use Rattle.std.specs.Prelude.{◌≡◌, ◌≢◌, ◌⊎◌, ℕ, ◌≤◌, List, [], Some, None, unwrap_or}
use Rattle.std.specs.declared.cmp.Ordering.TheVariants.{Greater}
use Rattle.serde_json.specs.Data.{Data, null}
use Rattle.json_form.specs.TreeParts.{tree_at}
use Rattle.layouts.specs.declared.fault.Fault.{Fault}
use Rattle.layouts.specs.declared.rule.Rule.TheVariants.{IsJson}
use Rattle.layouts.specs.Faults.{fault_cmp}
use Rattle.layouts.specs.told_rules.Told.{told_as}
use Rattle.csdl_names.specs.csdl_lists.Raw.{raw_model}
use Rattle.csdl_meaning.specs.ModelMeaning.{meaning}
use Rattle.csdl_model.specs.ModelFaults.{IsModelFault}
use Rattle.ssdl_model.specs.ssdl_lists.RawStore.{raw_store}
use Rattle.ssdl_model.specs.ssdl_making.StoreMeaning.{store_meaning}
use Rattle.ssdl_model.specs.StoreFaults.{IsStoreFault}
use Rattle.msl_rules.specs.msl_lists.Raw.{raw_mapping}
use Rattle.msl_rules.specs.MappingFaults.{IsMappingFault}
use Rattle.msl_rules.specs.MappingMeaning.{schema_in}
use Rattle.round_trip.specs.Words.{EntityModel, StoreModel, RuleFault, Schema, VocabFile}
use Rattle.round_trip.specs.soundness.mappings.Mappings.{IsSoundSchema}
use Rattle.edm_types.specs.declared.faults.VocabFile.TheVariants.{Csdl, Ssdl, Msl}

-- the place of a file in the order of the files
abbrev pub file_number : VocabFile → ℕ
file_number Csdl = 0
file_number Ssdl = 1
file_number Msl = 2

-- the tree that a file holds; null where it holds none
abbrev pub tree_in : List ℕ → Data
tree_in bytes = unwrap_or (tree_at bytes) null

-- the entity model that a file means by itself
abbrev pub model_in : List ℕ → EntityModel
model_in csdl = meaning (raw_model (tree_in csdl))

-- the store that a file means by itself
abbrev pub store_in : List ℕ → StoreModel
store_in ssdl = store_meaning (raw_store (tree_in ssdl))

-- a fault of a file by the rules of a vocabulary: that it isn't JSON, at its root; or one of the document that it holds
abbrev pub IsFaultBy : (Data → Fault → Type 0) → List ℕ → Fault → Type 0
IsFaultBy BreaksRule bytes fault =
    ((tree_at bytes ≡ None) × (fault.rule ≡ IsJson) × (fault.place ≡ []))
    ⊎ ((d : Data) × (tree_at bytes ≡ Some d) × BreaksRule d fault)

module _ (csdl ssdl msl : List ℕ) where
  -- the bytes of a file
  abbrev pub bytes_of : VocabFile → List ℕ
  bytes_of Csdl = csdl
  bytes_of Ssdl = ssdl
  bytes_of Msl = msl

  -- what the three files mean together
  abbrev pub schema_of_files : Schema
  schema_of_files = schema_in (model_in csdl) (store_in ssdl) (raw_mapping (tree_in msl))

  -- a fault of a document by the rules of its vocabulary; those of a mapping are asked between what the two other files mean
  abbrev pub IsTreeFault : VocabFile → Data → Fault → Type 0
  IsTreeFault Csdl = IsModelFault
  IsTreeFault Ssdl = IsStoreFault
  IsTreeFault Msl = IsMappingFault (model_in csdl) (store_in ssdl)

  -- the file breaks the rule at the place
  abbrev pub Breaks : VocabFile → Fault → Type 0
  Breaks file = IsFaultBy (IsTreeFault file) (bytes_of file)

  -- the documents break no rule
  abbrev pub BreaksNoRule : Type 0
  BreaksNoRule = (file : VocabFile) (fault : Fault) → ¬ Breaks file fault

  -- the rule that is told: that of the first file that breaks one, the least of that file by its number, at its first place
  pub record IsToldRule (told : RuleFault) : Type 0 where
    pub fault : Fault
    pub spelled : told ≡ told_as told.file fault
    pub broken : Breaks told.file fault
    pub in_first_file : (file : VocabFile) (other : Fault) → Breaks file other → file_number told.file ≤ file_number file
    pub least : (other : Fault) → Breaks told.file other → fault_cmp fault other ≢ Greater

  -- the documents break no rule, and this is what they mean
  pub record Means (schema : Schema) : Type 0 where
    pub unbroken : BreaksNoRule
    pub meaning : schema ≡ schema_of_files

  -- what the documents mean, where they break no rule, and it is sound
  pub record IsReadSchema (schema : Schema) : Type 0 where
    pub means : Means schema
    pub sound : IsSoundSchema schema

-- the same of some three documents
pub record IsRead (schema : Schema) : Type 0 where
  pub csdl : List ℕ
  pub ssdl : List ℕ
  pub msl : List ℕ
  pub read : IsReadSchema csdl ssdl msl schema
