-- When a legal state fails by a foreign key, and that some legal state does.
-- Source: the round-trip criterion of Melnik, Adya and Bernstein, SIGMOD 2007; SSDL version 3, ReferentialConstraint.
use Rattle.std.specs.Prelude.{◌≡◌}
use Rattle.round_trip.specs.Words.{FailsAt, ForeignKey, Place, State}
use Rattle.round_trip.specs.declared.FailKind.TheVariants as kind
use Rattle.regions.specs.Basis.{Basis}

-- the state is legal; a row that is told by the place refers by the key, and finds none
pub record FailsAtKey (basis : Basis) (key : ForeignKey) (place : Place) (state : State) : Type 0 where
  pub fails : FailsAt basis.schema kind.Dangling place state state
  pub of_key : fails.fails.key ≡ key

-- some legal state fails by the key
pub record FailsByKey (basis : Basis) (key : ForeignKey) : Type 0 where
  pub place : Place
  pub state : State
  pub at : FailsAtKey basis key place state
