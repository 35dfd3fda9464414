pub mod Rivals
pub mod RivalsFail
pub mod RivalTold
pub mod Written
