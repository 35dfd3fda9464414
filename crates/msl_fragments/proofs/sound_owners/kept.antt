pub mod KeptFragments
pub mod KeptLinks
