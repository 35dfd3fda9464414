pub mod Alike
pub mod RivalValues
