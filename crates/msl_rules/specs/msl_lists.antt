pub mod Picks
pub mod Raw
