pub mod least_fault
pub mod name_places
pub mod linked_places
pub mod item_groups
