pub mod Short
pub mod Uses
pub mod Places
pub mod Fitting
