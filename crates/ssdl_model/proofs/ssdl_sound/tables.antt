pub mod KeptTables
pub mod MeantTables
pub mod TablesFound
pub mod SoundTables
pub mod ColumnIds
pub mod ColumnKinds
