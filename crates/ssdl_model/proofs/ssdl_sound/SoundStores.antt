-- What a document means is a sound store where it breaks no rule.
use Rattle.round_trip.specs.soundness.Stores.{IsSoundStore}
use Rattle.csdl_names.specs.declared.csdl_lists.raw.RawModel.{RawModel}
use Rattle.ssdl_model.specs.ssdl_making.StoreMeaning.{store_meaning}
use Rattle.ssdl_model.specs.ssdl_sound.SoundStore.{KeepsStoreRules}
use Rattle.ssdl_model.proofs.ssdl_sound.keys.SoundKeys.{keys_apart, keys_inside as foreign_inside, sound_keys}
use Rattle.ssdl_model.proofs.ssdl_sound.tables.SoundTables.{all_columns_apart, keys_inside, sound_tables, tables_apart}

-- its parts, joined
pub sound_store : (raw : RawModel) → KeepsStoreRules raw → IsSoundStore (store_meaning raw)
sound_store raw keeps = record {
  ids = record { keys = keys_inside raw keeps; foreign = foreign_inside raw keeps };
  names = record { tables = tables_apart raw keeps; columns = all_columns_apart raw keeps; keys = keys_apart raw keeps };
  tables = sound_tables raw keeps;
  keys = sound_keys raw keeps;
}
