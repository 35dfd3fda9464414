use Rattle.schema_laws.proofs.sound_forests.Whole.{sound_holds}
use Rattle.state_legality.proofs.set_legality.legal.has_fitting_type.Goals as goal

pub is_of-requires-clause-whole : goal.is_of-requires-clause-whole
is_of-requires-clause-whole c = sound_holds c.args.model.now c.requires

pub returns-then-is_concrete : goal.returns-then-is_concrete
returns-then-is_concrete c = (
  λ is. record { concrete = c.is_concrete.ensures.0 c.if-is_concrete.true; under = c.is_of.ensures.0 is },
  λ fits. c.is_of.ensures.1 fits.under,
)
