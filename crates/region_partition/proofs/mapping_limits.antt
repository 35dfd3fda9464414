pub mod Firsts
pub mod Turns
pub mod Told
pub mod InTurn
pub mod Kept
pub mod Bases
