pub mod Adding
pub mod Firsts
