pub mod Lost
pub mod LostTold
pub mod Absent
pub mod LeftOut
