use Rattle.std.proofs.Common.{◌≡◌, map, take}
use Rattle.serde_json.specs.View.{view}
use Rattle.ssdl_model.specs.ssdl_lists.RawStore.{raw_table}
use Rattle.ssdl_model.proofs.ssdl_lists.store.read_types.Given as goal

-- the types that were passed are read
abbrev pub invariant-loop-item : goal.invariant-loop-item
invariant-loop-item l = l.types ≡ map (λ item. raw_table (view item)) (take l.item-index l.item-items)
