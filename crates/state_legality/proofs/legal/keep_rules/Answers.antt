use Rattle.state_legality.proofs.legal.keep_rules.Goals as goal

pub returns-then-are_legal_sets : goal.returns-then-are_legal_sets
returns-then-are_legal_sets c = (
  λ is. (c.are_legal_sets.ensures.0 c.if-are_legal_sets.true, c.are_legal_links.ensures.0 is),
  λ both. c.are_legal_links.ensures.1 both.1,
)
