pub mod KeptConstraints
pub mod ConstraintSides
pub mod SideFacts
pub mod SideProps
pub mod SoundConstraints
pub mod SoundArrows
