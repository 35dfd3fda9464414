-- The types that the definitions of this crate name, passed on to them from one place. Declares nothing. Those that it declares
-- itself reach no crate above: `round_trip` names them in its own `Types`.
pub use Rattle.emc_base.specs.declared.ids.SetId.{SetId}
pub use Rattle.emc_base.specs.declared.ids.TypeId.{TypeId}
pub use Rattle.emc_base.specs.declared.ids.PropId.{PropId}
pub use Rattle.emc_base.specs.declared.ids.TableId.{TableId}
pub use Rattle.emc_base.specs.declared.ids.ColId.{ColId}
pub use Rattle.emc_base.specs.declared.ids.AssocId.{AssocId}
pub use Rattle.emc_base.specs.declared.ids.FkId.{FkId}
pub use Rattle.emc_base.specs.declared.ids.FragId.{FragId}
pub use Rattle.emc_base.specs.declared.ids.LinkFragId.{LinkFragId}
pub use Rattle.emc_base.specs.declared.ids.GroupId.{GroupId}
pub use Rattle.emc_base.specs.declared.value.Value.{Value}
pub use Rattle.emc_base.specs.declared.value.Value.TheVariants.{Null, Whole, Flag, Text, Bytes}
pub use Rattle.emc_base.specs.declared.value.Kind.{Kind}
pub use Rattle.emc_base.specs.declared.place.Place.{Place}
pub use Rattle.edm_types.specs.declared.model.EntityModel.{EntityModel}
pub use Rattle.edm_types.specs.declared.model.EntityType.{EntityType}
pub use Rattle.edm_types.specs.declared.model.Assoc.{Assoc}
pub use Rattle.edm_types.specs.declared.store.StoreModel.{StoreModel}
pub use Rattle.edm_types.specs.declared.store.Table.{Table}
pub use Rattle.edm_types.specs.declared.mapping.Fragment.{Fragment}
pub use Rattle.edm_types.specs.declared.mapping.Pick.{Pick}
pub use Rattle.edm_types.specs.declared.mapping.LinkFragment.{LinkFragment}
pub use Rattle.edm_types.specs.declared.mapping.CondOn.{CondOn}
pub use Rattle.edm_types.specs.declared.mapping.Test.{Test}
pub use Rattle.edm_types.specs.declared.data.Entity.{Entity}
pub use Rattle.edm_types.specs.declared.data.Link.{Link}
pub use Rattle.edm_types.specs.declared.data.Row.{Row}
pub use Rattle.emc_base.specs.Places.{place_at}
pub use Rattle.emc_base.specs.Lists.{At, AtMostOne}
pub use Rattle.emc_base.specs.Domain.{InDomain}
