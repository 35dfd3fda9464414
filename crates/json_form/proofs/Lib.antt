pub mod Views
pub mod Objects
pub mod Members
pub mod MemberByName
pub mod Depths
pub mod Told
