use Rattle.cells.proofs.limits.is_within_limits.Goals as goal

pub returns : goal.returns
returns c = (
  λ is.
      let kept = c.keep_limits.ensures.0 is in
      record { model = kept.0; groups = kept.1 },
  λ limits. c.keep_limits.ensures.1 (limits.model, limits.groups),
)
