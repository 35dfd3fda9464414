pub mod Details
pub mod Contacts
pub mod Accounts
pub mod Parents
pub mod Leaders
