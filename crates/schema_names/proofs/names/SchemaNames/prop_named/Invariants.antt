use Rattle.std.proofs.Common.{◌≡◌}
use Rattle.std.specs.Option.{option_and_then, option_or}
use Rattle.schema_names.specs.SchemaNames.{prop_named}
use Rattle.schema_names.proofs.Inherits.{types_left}
use Rattle.schema_names.proofs.names.SchemaNames.prop_named.Given as goal

-- the type has what is left to climb over, or else what was found below
abbrev pub invariant-loop-next : goal.invariant-loop-next
invariant-loop-next l =
    option_or (option_and_then (λ t. prop_named l.self.model.now t l.name) l.next) l.found ≡ prop_named l.self.model.now l.ty l.name

-- how many types are left
abbrev pub decreases-loop-next : goal.decreases-loop-next
decreases-loop-next l = types_left l.self.model.now l.self.inherits l.next
