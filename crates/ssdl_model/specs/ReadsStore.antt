-- What reading an SSDL document answers.
use Rattle.std.specs.Prelude.{◌≡◌, Result}
use Rattle.serde_json.specs.Data.{Data}
use Rattle.layouts.specs.declared.fault.Fault.{Fault}
use Rattle.layouts.specs.told_rules.Reads.{Answers}
use Rattle.edm_types.specs.declared.faults.VocabFault.{VocabFault}
use Rattle.edm_types.specs.declared.faults.VocabFile.TheVariants.{Ssdl}
use Rattle.edm_types.specs.declared.store.StoreModel.{StoreModel}
use Rattle.round_trip.specs.soundness.Stores.{IsSoundStore}
use Rattle.ssdl_model.specs.ssdl_lists.RawStore.{raw_store}
use Rattle.ssdl_model.specs.ssdl_making.StoreMeaning.{store_meaning}
use Rattle.ssdl_model.specs.StoreFaults.{IsStoreFault}

-- the document breaks no rule, and means this store, which is sound
pub record IsStoreOf (d : Data) (store : StoreModel) : Type 0 where
  pub unbroken : (fault : Fault) → ¬ IsStoreFault d fault
  pub meant : store ≡ store_meaning (raw_store d)
  pub sound : IsSoundStore store

-- Ok with the store that is meant, where the document breaks no rule; else the least rule that it breaks, at its first place. Memory says
-- nothing.
abbrev pub ReadsStore : Data → Result StoreModel VocabFault → Type 0
ReadsStore d = Answers Ssdl (IsStoreFault d) (IsStoreOf d)
