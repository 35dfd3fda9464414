pub mod altering
mod listing
