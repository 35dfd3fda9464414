-- The value that a node gives for a kind. A whole number outside of what the kind allows is a value of another kind's domain, not one of
-- another form, and so is a text that is too long.
-- Source: RFC 8259; the simple types and the enumerations of CSDL version 3; a byte list is told as the text of its bytes in two
-- hexadecimal digits each, in either case.
use Rattle.std.specs.Prelude.{ℕ, List, Option, Some, option_map, option_and_then, is_some, if◌then◌else◌}
use Rattle.std.specs.Result.{result_ok}
use Rattle.hex.specs.Hex.{decode_of}
use Rattle.serde_json.specs.Data.{Data}
use Rattle.serde_json.specs.Find.{as_bool, as_null, as_str}
use Rattle.json_form.specs.TreeParts.{whole_of}
use Rattle.emc_base.specs.declared.value.Kind.{Kind}
use Rattle.emc_base.specs.declared.value.Kind.TheVariants as kind
use Rattle.emc_base.specs.declared.value.Value.{Value}
use Rattle.emc_base.specs.declared.value.Value.TheVariants.{Null, Whole, Flag, Text, Bytes}

-- the bytes of pairs of hexadecimal digits
abbrev pub bytes_in : List ℕ → Option (List ℕ)
bytes_in text = result_ok (decode_of text)

-- the value of a node that isn't null; a kind's bound and its numbers aren't looked at
abbrev pub plain_value : Kind → Data → Option Value
plain_value kind.Byte d = option_map Whole (whole_of d)
plain_value kind.Int16 d = option_map Whole (whole_of d)
plain_value kind.Int32 d = option_map Whole (whole_of d)
plain_value kind.Int64 d = option_map Whole (whole_of d)
plain_value (kind.Enum numbers) d = option_map Whole (whole_of d)
plain_value kind.Boolean d = option_map Flag (as_bool d)
plain_value (kind.Text bound) d = option_map Text (as_str d)
plain_value (kind.Binary bound) d = option_map Bytes (option_and_then bytes_in (as_str d))

-- the value of a node for a kind, where it has the kind's form; null is null and stands for any kind
abbrev pub value_in : Kind → Data → Option Value
value_in kind d = if is_some (as_null d) then Some Null else plain_value kind d
