pub mod plain
pub mod principals
pub mod supporting
pub mod pruning
pub mod made
