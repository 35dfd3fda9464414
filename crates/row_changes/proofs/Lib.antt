pub mod leading
pub mod ordering
pub mod joining
