use Rattle.state_legality.proofs.set_legality.legal.fits_set.Goals as goal

pub returns-then-has_fitting_type : goal.returns-then-has_fitting_type
returns-then-has_fitting_type c = (
  λ is. record { typed = c.has_fitting_type.ensures.0 c.if-has_fitting_type.true; props = c.fits_props.ensures.0 is },
  λ fits. c.fits_props.ensures.1 fits.props,
)
