pub mod Lacking
pub mod LeastFound
pub mod PropClimbs
pub mod PropTables
pub mod RepeatedRule
pub mod RepeatedTypes
pub mod StepsLeft
pub mod UnresolvedRule
