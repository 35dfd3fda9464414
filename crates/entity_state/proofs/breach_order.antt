pub mod Seen
pub mod FirstFound
pub mod Domains
pub mod Turns
pub mod SameValues
pub mod Apart
pub mod Finds
mod Rising
