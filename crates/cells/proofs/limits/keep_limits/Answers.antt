use Rattle.cells.proofs.limits.keep_limits.Goals as goal

pub returns-then-is_small_model : goal.returns-then-is_small_model
returns-then-is_small_model c = (
  λ is. (c.is_small_model.ensures.0 c.if-is_small_model.true, c.have_few_constants.ensures.0 is),
  λ kept. c.have_few_constants.ensures.1 kept.1,
)
