use Rattle.entity_state.proofs.breach_order.Turns.{EachTo}
use Rattle.state_legality.specs.set_legality.Props.{FitsAt}
use Rattle.state_legality.proofs.set_legality.legal.fits_props.Given as goal

-- the values of the properties that were passed may stand there
abbrev pub invariant-loop-j : goal.invariant-loop-j
invariant-loop-j l = EachTo (λ j prop. FitsAt l.model l.entity j prop) l.props l.j
