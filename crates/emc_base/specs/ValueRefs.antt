-- The value that a lent one shows.
use Rattle.emc_base.specs.declared.value.Value.{Value}
use Rattle.emc_base.specs.declared.value.Value.TheVariants as value
use Rattle.emc_base.specs.declared.value_ref.ValueRef.{ValueRef}
use Rattle.emc_base.specs.declared.value_ref.ValueRef.TheVariants.{Null, Whole, Flag, Text, Bytes}

-- of the same sort, with the same content
abbrev pub shown_value : ValueRef → Value
shown_value Null = value.Null
shown_value (Whole number) = value.Whole number
shown_value (Flag flag) = value.Flag flag
shown_value (Text text) = value.Text text.now
shown_value (Bytes bytes) = value.Bytes bytes.now
