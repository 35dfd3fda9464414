pub mod case_texts
pub mod command_texts
pub mod change_texts
