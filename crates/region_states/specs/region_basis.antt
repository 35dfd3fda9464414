pub mod BasisOf
