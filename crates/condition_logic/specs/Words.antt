-- What the files of this crate name, passed on from one place. Declares nothing.
pub use Rattle.edm_types.specs.Words.{TypeId, PropId, ColId, Value, Null, At, IsA, props_of, value_beside, value_of, cell_of, Passes, MetByEntity, MetByRow, IsPicked, Selects, Shows, ShowsLink}
pub use Rattle.edm_types.specs.declared.model.EntityModel.{EntityModel}
pub use Rattle.edm_types.specs.declared.mapping.Fragment.{Fragment}
pub use Rattle.edm_types.specs.declared.mapping.LinkFragment.{LinkFragment}
pub use Rattle.edm_types.specs.declared.mapping.Pair.{Pair}
pub use Rattle.edm_types.specs.declared.mapping.Pick.{Pick}
pub use Rattle.edm_types.specs.declared.mapping.Cond.{Cond}
pub use Rattle.edm_types.specs.declared.mapping.CondOn.{CondOn}
pub use Rattle.edm_types.specs.declared.mapping.Test.{Test}
pub use Rattle.edm_types.specs.declared.data.Entity.{Entity}
pub use Rattle.edm_types.specs.declared.data.Row.{Row}
