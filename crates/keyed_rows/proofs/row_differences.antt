mod AllTables
mod Apart
mod Erased
mod KeyedRows
mod Law
pub mod NoDifference
pub mod OfState
mod OneTable
mod SideBySide
mod SidedGroups
mod Reordered
