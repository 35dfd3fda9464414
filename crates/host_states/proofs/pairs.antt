pub mod Alike
pub mod Agreeing
pub mod Rivals
pub mod Leaves
