use Rattle.std.proofs.Common.{sym, ◌∙◌}
use Rattle.region_states.proofs.defaults.Lists.{Decides-constant}
use Rattle.query_cases.proofs.case_cells.holding.is_among.Goals as goal

pub returns : goal.returns
returns c = let among = Decides-constant c.args.values.now c.args.value.now in (λ is. among.0 (sym c.has.ensures ∙ is), λ has. c.has.ensures ∙ among.1 has)
