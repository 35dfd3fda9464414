pub mod Tables
pub mod SameTables
pub mod Good
pub mod Domains
pub mod ReadBack
pub mod ByRows
