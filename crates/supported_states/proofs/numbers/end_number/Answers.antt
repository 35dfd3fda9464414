use Rattle.std.proofs.Common.{◌≡◌, arith, true, false, ap, sym, ◌∙◌}
use Rattle.std.proofs.lemmas.Result.{IfOk-weaker}
use Rattle.population.specs.Numbered.{end_number}
use Rattle.population.proofs.plain.Numbered.{twice_is}
use Rattle.supported_states.proofs.numbers.end_number.Goals as goal

pub returns-then-first : goal.returns-then-first
returns-then-first c =
    let double = twice_is c.args.assoc.index in
    IfOk-weaker c.narrow.result _ _ (λ number is. (let sum : number ≡ end_number true c.args.assoc = omega (arith, is, double) in sum ∙ ap (λ side. end_number side c.args.assoc) (sym c.if-first.true))) c.narrow.ensures

pub returns-else-first : goal.returns-else-first
returns-else-first c =
    let double = twice_is c.args.assoc.index in
    IfOk-weaker c.narrow-else-first.result _ _ (λ number is. (let sum : number ≡ end_number false c.args.assoc = omega (arith, is, double) in sum ∙ ap (λ side. end_number side c.args.assoc) (sym c.if-first.false))) c.narrow-else-first.ensures
