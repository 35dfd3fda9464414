-- A document that breaks no rule means a sound store; and no type in it has a base type.
use Rattle.std.proofs.Common.{◌≡◌, inl, inr, None, codes, sym, refl, subst}
use Rattle.std.proofs.lemmas.List.Elements.{All-map}
use Rattle.serde_json.specs.Data.{Data}
use Rattle.json_form.specs.from_nodes.Reading.{items_at}
use Rattle.emc_base.proofs.Lists.{all_from_members}
use Rattle.groupings.specs.least_fault.Least.{IsLeast}
use Rattle.layouts.specs.Faults.{fault_cmp}
use Rattle.edm_types.specs.declared.store.StoreModel.{StoreModel}
use Rattle.round_trip.specs.soundness.Stores.{IsSoundStore}
use Rattle.csdl_names.specs.declared.csdl_lists.raw.RawModel.{RawModel}
use Rattle.csdl_names.specs.declared.csdl_lists.raw.RawType.{RawType}
use Rattle.ssdl_model.specs.ssdl_lists.RawStore.{IsUnbased, raw_store, raw_table}
use Rattle.ssdl_model.specs.ssdl_making.StoreMeaning.{store_meaning}
use Rattle.ssdl_model.specs.ssdl_sound.SoundStore.{KeepsStoreRules}
use Rattle.ssdl_model.specs.ReadsStore.{IsStoreOf}
use Rattle.ssdl_model.specs.StoreFaults.{IsStoreFault}

-- none of the types that are read has a base type
pub store_unbased : (d : Data) → IsUnbased (raw_store d)
store_unbased d =
    let ds = items_at (codes "EntityType") d in
    All-map (λ (type : RawType). type.base ≡ None) raw_table ds (all_from_members (λ e. (raw_table e).base ≡ None) ds (λ e has. refl))

-- it keeps the rules on what is written
keeps_all : (d : Data) → IsLeast fault_cmp (IsStoreFault d) None → KeepsStoreRules (raw_store d)
keeps_all d none = record {
  unbased = store_unbased d;
  repeats_none = λ fault is. none fault (inr (inl (inl is)));
  shares_none = λ fault is. none fault (inr (inl (inr is)));
  resolves_all = λ fault is. none fault (inr (inr (inl (inl is))));
  ends_at_tables = λ fault is. none fault (inr (inr (inl (inr is))));
  keeps_tables = λ fault is. none fault (inr (inr (inr is)));
}

pub is_store_of : (d : Data) (store : StoreModel) → ((raw : RawModel) → KeepsStoreRules raw → IsSoundStore (store_meaning raw)) → IsLeast fault_cmp (IsStoreFault d) None
    → store ≡ store_meaning (raw_store d) → IsStoreOf d store
is_store_of d store sound none is = record { unbroken = none; meant = is; sound = subst IsSoundStore (sym is) (sound (raw_store d) (keeps_all d none)) }
