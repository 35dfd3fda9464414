pub mod RisingLists
pub mod Joins
pub mod Numbered
pub mod KindsOf
pub mod Below
pub mod HeldNumbers
