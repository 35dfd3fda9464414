pub mod Choices
pub mod Firsts
pub mod Found
