pub mod StoreNames
pub mod PrintedTables
pub mod PropNames
pub mod ModelNames
pub mod PrintedStates
