pub mod Numbers
pub mod Referring
