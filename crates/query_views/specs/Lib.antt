pub mod Views
pub mod First
pub mod Lent
pub mod LinkKeys
pub mod Answers
