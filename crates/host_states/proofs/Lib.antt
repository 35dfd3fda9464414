pub mod focus
pub mod pairs
pub mod bases
pub mod small
pub mod FewPartners
pub mod Hosts
