-- What the cells of a mapping tell: whom tables belong to, how keys are paired, where links stand, which columns are free, and the groups of
-- properties and columns.
-- Source: the profile of this project, over MSL version 3.
use Rattle.std.specs.Prelude.{slice_get, Bool, false, option_and_then}
use Rattle.std.specs.Option.{unwrap_or}
use Rattle.round_trip.specs.Words.{TableId, ColId, Schema}
use Rattle.table_owners.specs.Owners.{TellOwners}
use Rattle.table_owners.specs.Pairings.{TellPairings}
use Rattle.table_owners.specs.Places.{TellPlaces}
use Rattle.table_owners.specs.FreeColumns.{TellFree}
use Rattle.member_groups.specs.MemberGroups.{TellsMemberGroups}
use Rattle.cells.specs.declared.cells.Cells.{Cells}

-- the cells tell just what the definitions give for these three
pub record TellsCells (schema : Schema) (cells : Cells) : Type 0 where
  pub owners : TellOwners schema cells.owners
  pub pairings : TellPairings schema cells.pairings
  pub places : TellPlaces schema cells.places
  pub free : TellFree schema cells.free
  pub groups : TellsMemberGroups schema cells.groups

-- whether a column is told as free
abbrev pub is_free_in : Cells → TableId → ColId → Bool
is_free_in cells t c = unwrap_or (option_and_then (λ columns. slice_get columns c.index) (slice_get cells.free t.index)) false
