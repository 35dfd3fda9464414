use Rattle.state_legality.proofs.set_legality.legal.keep_set_rules.Goals as goal

pub returns-then-fit_set : goal.returns-then-fit_set
returns-then-fit_set c = (
  λ is. (c.fit_set.ensures.0 c.if-fit_set.true, c.are_apart.ensures.0 is),
  λ both. c.are_apart.ensures.1 both.1,
)
