-- What nearly every file above names, passed on from one place: the types of models, states and tables, the definitions on them, and
-- the definitions of what is promised. Declares nothing.
pub use Rattle.round_trip.specs.Types.{EntityModel, EntityType, Prop, TypeNode, Nav, EntitySet, Assoc, End, Mult, Constraint, StoreModel, Table, Column, ForeignKey, Mapping, Fragment, Pick, Pair, LinkFragment, Cond, CondOn, Test, Schema, Entity, Link, Hosted, Row, VocabFile, RuleFault, Breach, LimitFault, LimitKind, SetId, TypeId, PropId, TableId, ColId, AssocId, FkId, FragId, LinkFragId, GroupId, Value, Null, Whole, Flag, Text, Bytes, Kind, Place, place_at, At, AtMostOne, InDomain, HasBase, IsA, IsConcrete, type_at, props_of, key_props, value_beside, value_of, values_of, key_of, IsEntity, State, entities_in, links_in, IsIndependent, IsLink, IsState, IsSameState, Tables, rows_in, cell_of, cells_of, row_key, AreTables, AreSameTables, Passes, MetByEntity, MetByRow, IsPicked, Selects, Shows, ShowsLink}
pub use Rattle.round_trip.specs.legality.Legal.{HasProp, HasFittingType, HasAllowedNulls, HasValuesInDomain, IsLegalSet, HasEntityAt, HasCount, AreLegalLinks, dependent_end, principal_end, HasPrincipal, HavePrincipals, IsLegal}
pub use Rattle.round_trip.specs.legality.LegalTables.{HasAllowedNullCells, HasCellsInDomain, AreLegalRows, Refers, FindsRow, KeepsForeignKey, AreLegalTables}
pub use Rattle.round_trip.specs.legality.Breaches.{IsFirstBreach, IsBreachOf}
pub use Rattle.round_trip.specs.Demand.{Writing, entity_cells, end_cells, link_cells, EntityWrites, LinkWrites, Writes, written_to, key_columns, written_key, Fills, WritesRow, DemandsRow, DemandsCell}
pub use Rattle.round_trip.specs.TablesAre.{HasNoClash, HasDemandedCells, AreDemandedRows, TablesAre}
pub use Rattle.round_trip.specs.FreeColumns.{IsWritten, IsNamedBy, IsFree, IsErasedRow, AreErased, IsKeptRow, KeepsFree, AreKept}
pub use Rattle.round_trip.specs.Satisfies.{IsWrittenTuple, IsShownTuple, IsWrittenLinkTuple, IsShownLinkTuple, AreSameTuples, Satisfies}
pub use Rattle.round_trip.specs.FailsAt.{kind_number, FailsBy, FailsAt}
pub use Rattle.round_trip.specs.RoundTrips.{RoundTrips, HasGoodTables, KeepsEveryState, Keeps}
