-- The parts that a lent key has beside it.
use Rattle.std.specs.Prelude.{ℕ, List, slice_get, unwrap_or}
use Rattle.emc_base.specs.declared.value.Value.{Value}
use Rattle.emc_base.specs.declared.value.Value.TheVariants.{Null}

-- the part of a key at a place; null where it has none
abbrev pub part_of : List Value → ℕ → Value
part_of parts place = unwrap_or (slice_get parts place) Null
