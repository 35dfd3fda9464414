use Rattle.std.proofs.Common.{◌≡◌, Contains, sym, subst, ◌∙◌}
use Rattle.std.specs.BTreeMap.{keys}
use Rattle.schema_laws.proofs.state_demand.lists.Lists.{none_in_nil}
use Rattle.query_cases.proofs.case_index.Unnumbered.{none_known}
use Rattle.query_cases.proofs.case_index.telling.holds_others.Goals as goal

pub returns : goal.returns
returns c = λ told value may.
    let numbers = c.args.numbers.now in
    let all : c.into_iter-value-iterator.result ≡ keys numbers = c.into_iter-value-iterator.ensures.into_iter_gives ∙ c.keys-value-items.ensures.rest in
    none_known numbers value
    (λ has.
    let left = c.loop-value.invariant value may (subst (λ list. Contains list value) (sym all) has) in
    none_in_nil value (subst (λ list. Contains list value) c.in-None.ensures.steps.0 left))
