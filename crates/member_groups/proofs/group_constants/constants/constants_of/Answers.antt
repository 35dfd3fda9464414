use Rattle.std.proofs.Common.{ℕ, length}
use Rattle.std.proofs.lemmas.Result.{IfOk-weaker}
use Rattle.round_trip.specs.Words.{Value}
use Rattle.member_groups.specs.mapping_asks.Adding.{Each, EachBelow}
use Rattle.member_groups.specs.group_constants.Constants.{Compares, IsValueOf, NumbersOfProp}
use Rattle.member_groups.proofs.group_constants.Sets.{adds_in_both, lists_told}
use Rattle.member_groups.proofs.group_constants.constants.constants_of.Goals as goal

pub returns : goal.returns
returns c =
    let model = c.args.model.now in
    let numbered = c.args.numbered.now in
    let tested = c.args.tested.now in
    let empty = c.in_ok-sets.sets.items in
    let between = c.add_compared.new.sets.items in
    let after = c.add_enums.new.sets.items in
    let Compared : ℕ × Value → Type 0 = Each (Compares numbered) c.args.asks.now in
    let Numbers : ℕ × Value → Type 0 = EachBelow (NumbersOfProp model numbered tested) (length model.props) in
    IfOk-weaker c.lists_of.result _ _
    (λ lists listed.
    lists_told (IsValueOf model numbered c.args.asks.now tested) numbered.numbers.count empty after lists c.in_ok-sets.ensures
    (adds_in_both Compared Numbers empty between after c.in_ok-add_compared.ensures c.in_ok-add_enums.ensures) listed)
    c.lists_of.ensures
