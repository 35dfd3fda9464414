pub mod Alone
pub mod Linking
pub mod Lists
pub mod Moving
pub mod Numbering
