-- One of two regions, beside the other.
-- Source: this project's choice of the values in the states that it shows.
use Rattle.std.specs.Prelude.{◌≡◌}
use Rattle.regions.specs.declared.pattern.Focus.TheVariants as focus
use Rattle.regions.specs.Basis.{Basis}
use Rattle.regions.specs.Patterns.{pattern_of}
use Rattle.witness_state.specs.declared.region_values.rivals.Rival.{Rival}

-- the patterns are those of the two regions
pub record IsRival (basis : Basis) (rival : Rival) : Type 0 where
  pub own : rival.pattern.now ≡ pattern_of basis (focus.Entity rival.region.now)
  pub faced : rival.facing.now ≡ pattern_of basis (focus.Entity rival.other.now)
