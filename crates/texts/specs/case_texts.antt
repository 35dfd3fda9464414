pub mod Names
pub mod CaseTree
pub mod Views
