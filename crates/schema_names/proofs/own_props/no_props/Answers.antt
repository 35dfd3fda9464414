use Rattle.std.proofs.Common.{◌+◌, List, arith, sym, subst}
use Rattle.std.proofs.lemmas.Grind.{common_steps}
use Rattle.schema_names.specs.OwnProps.{HaveNoProps}
use Rattle.schema_names.specs.declared.own_props.OwnProps.{OwnProps}
use Rattle.schema_names.proofs.Declared.{none_more}
use Rattle.schema_names.proofs.own_props.no_props.Goals as goal

pub loop-preserved : goal.loop-preserved
loop-preserved c =
    let n = c.loop.counter in
    let None : List OwnProps → Type 0 = HaveNoProps (n + 1) in
    subst None (sym c.in_ok-push.ensures.items) (none_more n c.loop.own.items (record { by_name = c.new.result }) c.loop.invariant c.new.ensures.empty)

pub returns : goal.returns
returns c = grind (arith, common_steps)
