pub mod states
pub mod rivals
pub mod lost
pub mod There
pub mod rows
pub mod Names
pub mod Told
pub mod ToldThere
