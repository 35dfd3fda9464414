pub mod Climbed
pub mod EachPick
