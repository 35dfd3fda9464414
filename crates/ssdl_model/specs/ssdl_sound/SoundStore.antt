-- When a document keeps the rules of SSDL on what is written in it.
use Rattle.layouts.specs.declared.fault.Fault.{Fault}
use Rattle.csdl_names.specs.declared.csdl_lists.raw.RawModel.{RawModel}
use Rattle.csdl_names.specs.Repeated.{IsRepeated}
use Rattle.csdl_names.specs.Unresolved.{IsUnresolved}
use Rattle.ssdl_model.specs.ssdl_lists.RawStore.{IsUnbased}
use Rattle.ssdl_model.specs.ssdl_rules.Owned.{IsEndless, IsShared}
use Rattle.ssdl_model.specs.ssdl_rules.StoreRules.{BreaksStoreRules}

-- the document breaks none of the rules V6, V7, V13 and V21 to V25; no type has a base type, as in each SSDL document
pub record KeepsStoreRules (raw : RawModel) : Type 0 where
  pub unbased : IsUnbased raw
  -- V6
  pub repeats_none : (fault : Fault) → ¬ IsRepeated raw fault
  pub shares_none : (fault : Fault) → ¬ IsShared raw fault
  -- V7
  pub resolves_all : (fault : Fault) → ¬ IsUnresolved raw fault
  pub ends_at_tables : (fault : Fault) → ¬ IsEndless raw fault
  -- V13 and V21 to V25
  pub keeps_tables : (fault : Fault) → ¬ BreaksStoreRules raw fault
