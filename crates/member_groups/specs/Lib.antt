pub mod Causes
pub mod MemberGroups
pub mod Tested
pub mod joined_groups
pub mod mapping_asks
pub mod group_numbers
pub mod group_constants
pub mod OfNumbered
