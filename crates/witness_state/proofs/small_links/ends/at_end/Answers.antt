use Rattle.std.proofs.Common.{◌∙◌, sym, ap}
use Rattle.population.specs.LinkStates.{at_end}
use Rattle.witness_state.proofs.small_links.ends.at_end.Goals as goal

pub returns-then-first : goal.returns-then-first
returns-then-first c = λ model outer. c.at_first.ensures model outer ∙ ap (λ b. at_end model outer b c.args.declared.now) (sym c.if-first.true)

pub returns-else-first : goal.returns-else-first
returns-else-first c = λ model outer. c.at_second.ensures model outer ∙ ap (λ b. at_end model outer b c.args.declared.now) (sym c.if-first.false)
