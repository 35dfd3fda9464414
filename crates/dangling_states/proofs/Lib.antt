pub mod Results
pub mod Alone
pub mod Letters
pub mod Together
pub mod Placing
pub mod Missing
pub mod Becomes
