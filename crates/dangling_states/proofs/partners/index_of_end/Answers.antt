use Rattle.std.proofs.Common.{◌≡◌, ◌+◌, ◌*◌, arith, true, false, ap, sym, ◌∙◌}
use Rattle.population.specs.Numbered.{end_number}
use Rattle.population.proofs.plain.Numbered.{twice_is}
use Rattle.schema_laws.specs.short_values.Fresh.{added_value}
use Rattle.dangling_states.proofs.partners.index_of_end.Goals as goal

pub returns-then-first-clause-index : goal.returns-then-first-clause-index
returns-then-first-clause-index c =
    let double = twice_is c.args.assoc.index in
    let place = c.from-place.ensures in
    let sum : 2001 + 2 * c.from-place.result ≡ added_value (end_number true c.args.assoc) = omega (arith, place, double) in
    sum ∙ ap (λ side. added_value (end_number side c.args.assoc)) (sym c.if-first.true)

pub returns-else-first-clause-index : goal.returns-else-first-clause-index
returns-else-first-clause-index c =
    let double = twice_is c.args.assoc.index in
    let place = c.from-place.ensures in
    let sum : 2001 + 2 * c.from-place.result + 1 ≡ added_value (end_number false c.args.assoc) = omega (arith, place, double) in
    sum ∙ ap (λ side. added_value (end_number side c.args.assoc)) (sym c.if-first.false)
