-- The members of an object by their names.
use Rattle.std.specs.Prelude.{ℕ, List}
use Rattle.serde_json.specs.Data.{Data}
use Rattle.emc_base.specs.Lists.{At}
use Rattle.json_form.specs.TreeParts.{members_in}

-- the object has a member of this name, and it is this tree
abbrev pub HasMember : Data → List ℕ → Data → Type 0
HasMember d name part = (place : ℕ) × At (members_in d) place (name, part)
