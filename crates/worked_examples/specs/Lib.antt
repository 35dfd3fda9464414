pub mod Ids
pub mod people
pub mod LevelLost
pub mod staff
pub mod bosses
pub mod Seats
pub mod sound_examples
pub mod supported
