pub mod BasePlaces
pub mod Deciding
pub mod Once
pub mod Inherited
pub mod Dependent
