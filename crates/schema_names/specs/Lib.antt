pub mod Columns
pub mod Inherited
pub mod LentNames
pub mod OwnProps
pub mod SchemaNames
pub mod Tables
