pub mod Words
pub mod Readings
pub mod Holds
pub mod Mentions
pub mod Selecting
pub mod InAtoms
pub mod Made
pub mod Subjects
