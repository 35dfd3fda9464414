pub mod Small
pub mod Values
pub mod Entities
pub mod Writings
pub mod States
pub mod LegalRows
pub mod KeyedRows
pub mod Agreement
