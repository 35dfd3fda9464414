pub mod Beside
pub mod InModel
pub mod Marking
pub mod RootKeys
