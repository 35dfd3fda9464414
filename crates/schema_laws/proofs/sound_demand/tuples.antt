pub mod OneRow
pub mod TupleKeys
pub mod Tuples
pub mod Disagreeing
