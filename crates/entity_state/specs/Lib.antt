pub mod Lists
pub mod InOrder
pub mod StateTree
pub mod Tells
pub mod breach_order
pub mod entity_values
