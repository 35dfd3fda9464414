pub mod Plain
mod Turns
