use Rattle.schema_names.specs.OwnProps.{HaveNoProps}
use Rattle.schema_names.proofs.own_props.no_props.Given as goal

-- so many types so far
abbrev pub invariant-loop : goal.invariant-loop
invariant-loop l = HaveNoProps l.counter l.own.items
