use Rattle.std.proofs.Common.{◌==◌, ◌%◌, option_map, Some, sym, ap, ◌∙◌}
use Rattle.std.specs.Option.{option_copied}
use Rattle.population.specs.Numbered.{end_of}
use Rattle.supported_states.proofs.Ends.{end_halved}
use Rattle.supported_states.proofs.numbers.end_at.Goals as goal

pub returns-in_err-assoc : goal.returns-in_err-assoc
returns-in_err-assoc c =
    let place = c.args.place in
    ap option_copied c.from_residual.ensures
    ∙ ap (λ found. option_map (end_of (place % 2 == 0)) (option_copied found)) (sym c.in_err-assoc.was)
    ∙ ap (option_map (end_of (place % 2 == 0))) c.get.ensures.item
    ∙ sym (end_halved c.args.model.now.assocs place)

pub returns : goal.returns
returns c =
    let place = c.args.place in
    ap Some c.end_of.ensures
    ∙ ap (λ found. option_map (end_of (place % 2 == 0)) (option_copied found)) (sym c.in_ok-assoc.was)
    ∙ ap (option_map (end_of (place % 2 == 0))) c.get.ensures.item
    ∙ sym (end_halved c.args.model.now.assocs place)
