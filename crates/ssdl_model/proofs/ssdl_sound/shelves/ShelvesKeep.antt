-- The shelves break no rule.
use Rattle.std.proofs.Common.{◌≡◌, None, refl, zero-add}
use Rattle.emc_base.proofs.Joined.{all_from_places}
use Rattle.layouts.proofs.rule_places.NoFaults.{each_at}
use Rattle.ssdl_model.specs.ssdl_lists.RawStore.{IsUnbased}
use Rattle.ssdl_model.specs.ssdl_sound.Shelves.{shelves}
use Rattle.ssdl_model.specs.ssdl_sound.SoundStore.{KeepsStoreRules}
use Rattle.ssdl_model.proofs.ssdl_sound.shelves.ShelvesNames.{ends_at_tables, repeats_none, resolves_all, shares_none}
use Rattle.ssdl_model.proofs.ssdl_sound.shelves.ShelvesTables.{keeps_tables}

-- neither type has a base type
unbased : IsUnbased shelves
unbased = all_from_places (λ type. type.base ≡ None) shelves.types (λ i type here. each_at (λ i type. type.base ≡ None) 0 i i shelves.types type (zero-add i) (refl, (refl, tt)) here)

pub shelves_keep : KeepsStoreRules shelves
shelves_keep = record { unbased = unbased; repeats_none = repeats_none; shares_none = shares_none; resolves_all = resolves_all; ends_at_tables = ends_at_tables; keeps_tables = keeps_tables }
