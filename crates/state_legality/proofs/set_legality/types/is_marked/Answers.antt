use Rattle.state_legality.proofs.set_legality.types.is_marked.Goals as goal

pub returns-then-is_concrete : goal.returns-then-is_concrete
returns-then-is_concrete c = (
  λ is. (c.is_concrete.ensures.0 c.if-is_concrete.true, c.has_mark.ensures.0 is),
  λ both. c.has_mark.ensures.1 both.1,
)
