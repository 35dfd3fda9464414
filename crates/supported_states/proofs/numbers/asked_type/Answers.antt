use Rattle.std.proofs.Common.{sym, ap, ◌∙◌}
use Rattle.std.specs.Option.{option_copied, option_map_or}
use Rattle.population.specs.Numbered.{type_at_end}
use Rattle.supported_states.proofs.Ends.{asked_some}
use Rattle.supported_states.proofs.numbers.asked_type.Goals as goal

pub returns-in-Some : goal.returns-in-Some
returns-in-Some c =
    let model = c.args.model.now in
    let set = c.args.entry.now in
    c.type_at_end.ensures model
    ∙ ap (λ found. option_map_or (type_at_end model c.args.set set) (option_copied found) set.element) (sym c.in-Some.is)
    ∙ asked_some model c.args.set set c.args.number c.if-number-eq0.false (option_copied c.end_at.result) c.end_at.ensures
