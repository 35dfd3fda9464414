-- What nearly every file above names, passed on from one place: values, ids and lists, and the definitions on entities, states, rows and
-- selection. Declares nothing. A crate passes on no type of its own, so those of models and states come with the words of `round_trip`.
pub use Rattle.edm_types.specs.Types.{SetId, TypeId, PropId, TableId, ColId, AssocId, FkId, FragId, LinkFragId, GroupId, Value, Null, Whole, Flag, Text, Bytes, Kind, Place, place_at, At, AtMostOne, InDomain}
pub use Rattle.edm_types.specs.IsA.{HasBase, IsA, IsConcrete}
pub use Rattle.edm_types.specs.Entities.{type_at, props_of, key_props, value_beside, value_of, values_of, key_of, IsEntity}
pub use Rattle.edm_types.specs.State.{State, entities_in, links_in, IsIndependent, IsLink, IsState, IsSameState}
pub use Rattle.edm_types.specs.Rows.{Tables, rows_in, cell_of, cells_of, row_key, AreTables, AreSameTables}
pub use Rattle.edm_types.specs.Selected.{Passes, MetByEntity, MetByRow, IsPicked, Selects, Shows, ShowsLink}
