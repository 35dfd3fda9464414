-- Regions with the rows that their entities write.
-- Source: this project's.
use Rattle.std.specs.Prelude.{◌≡◌, List, All, Bool, map, not, true}
use Rattle.std.specs.List.{list_any}
use Rattle.regions.specs.declared.region.Region.{Region}
use Rattle.regions.specs.declared.pattern.Focus.TheVariants as focus
use Rattle.regions.specs.Basis.{Basis}
use Rattle.regions.specs.Patterns.{pattern_of}
use Rattle.containment.specs.declared.same_conflicts.written.Written.{Written}

-- the region that is lent
abbrev pub region_in : Written → Region
region_in one = one.region.now

-- the rows are those of the region
abbrev pub IsWritten : Basis → Written → Type 0
IsWritten basis one = one.pattern ≡ pattern_of basis (focus.Entity (region_in one))

-- just these regions, in their order, each with its rows
pub record AreWritten (basis : Basis) (regions : List Region) (written : List Written) : Type 0 where
  pub of : map region_in written ≡ regions
  pub rows : All (IsWritten basis) written

-- there is no row
abbrev pub leaves_no_row : Written → Bool
leaves_no_row one = not (list_any (λ row. true) one.pattern.rows)
