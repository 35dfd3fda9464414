use Rattle.std.proofs.Common.{arith, length}
use Rattle.std.proofs.lemmas.Result.{IfOk-weaker}
use Rattle.population.proofs.plain.Numbered.{twice_is}
use Rattle.supported_states.proofs.numbers.number_count.Goals as goal

pub returns : goal.returns
returns c =
    let size = c.len.ensures.count in
    let double = twice_is (length c.args.model.now.assocs) in
    IfOk-weaker c.narrow.result _ _ (λ count is. omega (arith, is, size, double)) c.narrow.ensures
