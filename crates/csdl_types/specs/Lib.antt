pub mod Simple
pub mod Numbers
pub mod Keys
pub mod Inherited
pub mod OwnNames
pub mod PropTypes
pub mod TypeRules
