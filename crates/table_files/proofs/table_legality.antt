pub mod Referring
pub mod Fitting
pub mod Leaves
pub mod Held
pub mod Flat
pub mod Unbroken
pub mod Kept
