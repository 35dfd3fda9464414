pub mod Sets
pub mod EachKind
pub mod Conflicts
