-- What a basis tells of properties, and of their atoms.
use Rattle.std.proofs.Common.{◌≡◌, Contains}
use Rattle.std.proofs.lemmas.Option.{slice_get_within}
use Rattle.emc_base.specs.Lists.{AreApart}
use Rattle.round_trip.specs.Words.{PropId, Prop, Value, At}
use Rattle.round_trip.specs.soundness.mappings.Joined.{prop}
use Rattle.condition_logic.specs.declared.atoms.Atom.{Atom}
use Rattle.schema_laws.proofs.sound_types.Dependent.{sound_kind}
use Rattle.regions.specs.Atoms.{Allows, LiesIn, atom_of, atoms_of}
use Rattle.regions.specs.Basis.{Basis}
use Rattle.regions.specs.region_laws.IsBasis.{IsBasis}
use Rattle.regions.proofs.region_laws.values.Atoms.{apart, one, only, rising_apart}

module _ (basis : Basis) (is : IsBasis basis) where
  module _ (p : PropId) (declared : Prop) (here : At basis.schema.model.props p.index declared) where
    -- no constant of its group stands twice
    pub constants_once : AreApart (basis.constants (prop p))
    constants_once = rising_apart (basis.constants (prop p)) (is.constants (prop p) (slice_get_within basis.schema.model.props p.index declared here)).sorted

    pub atom_one : (value : Value) → Allows declared value
        → Contains (atoms_of basis.fits declared (basis.constants (prop p))) (atom_of declared (basis.constants (prop p)) value)
        × LiesIn (basis.constants (prop p)) (atom_of declared (basis.constants (prop p)) value) value
    atom_one value allowed = one basis.fits is.domains (basis.constants (prop p)) declared value allowed

    pub atom_only : (a : Atom) (value : Value) → Contains (atoms_of basis.fits declared (basis.constants (prop p))) a → LiesIn (basis.constants (prop p)) a value
        → a ≡ atom_of declared (basis.constants (prop p)) value
    atom_only a value has lies = only basis.fits is.domains (basis.constants (prop p)) declared a value has lies

    pub atoms_once : AreApart (atoms_of basis.fits declared (basis.constants (prop p)))
    atoms_once = apart basis.fits is.domains (basis.constants (prop p)) declared (sound_kind basis.schema.model is.sound.model p declared here) constants_once
