-- Forced entities as they are looked up among others.
-- Source: this project's.
use Rattle.std.specs.Prelude.{◌≡◌, map, Option, None, Some}
use Rattle.std.specs.declared.cmp.Ordering.{Ordering}
use Rattle.regions.specs.declared.pattern.Symbol.{Symbol}
use Rattle.regions.specs.declared.pattern.Symbol.TheVariants as symbol
use Rattle.forced_entities.specs.declared.member.Forced.{Forced}
use Rattle.forced_entities.specs.declared.spots.Part.{Part}
use Rattle.forced_entities.specs.declared.spots.Part.TheVariants as part
use Rattle.forced_entities.specs.declared.spots.Spot.{Spot}
use Rattle.forced_entities.specs.contracts.spots.SpotOrd.TheImpl as spot_ord
use Rattle.forced_entities.specs.contracts.spots.PartOrd.TheImpl as part_ord

-- what is told of a part
abbrev pub part_of : Option Symbol → Part
part_of None = part.Unknown
part_of (Some symbol.Null) = part.Null
part_of (Some (symbol.Const value)) = part.Const value
part_of (Some (symbol.Prop p)) = part.Prop p.index
part_of (Some (symbol.End assoc first p)) = part.End assoc.index first p.index

-- the spot is that of the entity
pub record IsSpotOf (one : Forced) (spot : Spot) : Type 0 where
  pub set : spot.set ≡ one.set.index
  pub ty : spot.ty ≡ one.ty.index
  pub key : spot.key.items ≡ map part_of one.key

-- the orders of parts and of spots
abbrev pub part_cmp : Part → Part → Ordering
part_cmp = (part_ord.ghosts).cmp

abbrev pub spot_cmp : Spot → Spot → Ordering
spot_cmp = (spot_ord.ghosts).cmp
