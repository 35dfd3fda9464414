pub mod Names
pub mod Tables
pub mod Shapes
pub mod DocShapes
pub mod States
pub mod Reading
