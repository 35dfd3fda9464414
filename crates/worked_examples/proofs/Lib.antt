pub mod facts
pub mod people
mod LevelLost
mod staff
mod bosses
mod Seats
