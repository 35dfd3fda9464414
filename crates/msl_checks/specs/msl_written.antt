pub mod Again
pub mod MeantAt
pub mod Rising
pub mod Within
pub mod OnConditions
