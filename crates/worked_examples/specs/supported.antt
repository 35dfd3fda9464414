pub mod Supports
pub mod Details
pub mod Owned
pub mod Contacts
pub mod Accounts
pub mod Parents
pub mod Bosses
pub mod Leaders
