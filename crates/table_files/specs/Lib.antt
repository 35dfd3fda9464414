pub mod Lists
pub mod InOrder
pub mod TablesTree
pub mod Tells
pub mod Entries
pub mod table_legality
