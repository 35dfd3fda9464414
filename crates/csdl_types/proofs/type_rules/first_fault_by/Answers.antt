use Rattle.std.proofs.Common.{length, Option, sym, subst}
use Rattle.groupings.specs.least_fault.Least.{IsLeast}
use Rattle.layouts.specs.declared.fault.Fault.{Fault}
use Rattle.layouts.specs.Faults.{fault_cmp}
use Rattle.graphs.specs.base_chains.Chains.{base_at}
use Rattle.graphs.specs.base_chains.Walks.{IsWalk}
use Rattle.graphs.specs.declared.base_chains.walking.Walk.{Walk}
use Rattle.csdl_types.specs.TypeRules.{BreaksTypeRules}
use Rattle.csdl_names.proofs.csdl_lists.BaseTypes.{bases_within}
use Rattle.csdl_types.proofs.Cycles.{cycle_least, rooted_least}
use Rattle.csdl_types.proofs.type_rules.first_fault_by.Goals as goal

pub walk_bases-requires : goal.walk_bases-requires
walk_bases-requires c = record { within = bases_within c.args.model.now c.args.bases.now c.requires.based c.requires.alike }

pub first_later_fault-requires-clause-within : goal.first_later_fault-requires-clause-within
first_later_fault-requires-clause-within c = bases_within c.args.model.now c.args.bases.now c.requires.based c.requires.alike

pub returns-in_ok-found-in-Cycle : goal.returns-in_ok-found-in-Cycle
returns-in_ok-found-in-Cycle c =
    let Told : Walk → Type 0 = λ walk. IsWalk (base_at c.args.bases.now) (length c.args.bases.now) walk in
    let P : Option Fault → Type 0 = λ found. IsLeast fault_cmp (BreaksTypeRules c.args.model.now) found in
    subst P (sym c.in_ok-found-in-Cycle.ensures)
    (cycle_least c.args.model.now c.args.bases.now c.requires.based c.in-Cycle.first (subst Told c.in-Cycle.is c.in_ok-first.ensures))

pub returns-in_ok-found-in-Order : goal.returns-in_ok-found-in-Order
returns-in_ok-found-in-Order c =
    let Told : Walk → Type 0 = λ walk. IsWalk (base_at c.args.bases.now) (length c.args.bases.now) walk in
    let walked = subst Told c.in-Order.is c.in_ok-first.ensures in
    rooted_least c.args.model.now c.args.bases.now c.requires.based walked.0 c.in_ok-found-in-Order.found c.in_ok-found-in-Order.ensures
