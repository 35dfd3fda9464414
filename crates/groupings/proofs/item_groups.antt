pub mod Keyed
mod Sorted
